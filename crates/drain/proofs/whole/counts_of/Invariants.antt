use Rattle.std.proofs.Common.{◌≡◌, ◌<◌, ℕ, get_or, length, take}
use Rattle.drain.specs.Whole.{AreConfigured, numbers_of}
use Rattle.receipt_ledger.specs.History.{times}
use Rattle.drain.proofs.whole.counts_of.Given as goal

abbrev pub invariant-loop-core : goal.invariant-loop-core
invariant-loop-core g l = record {
  long : length l.counts ≡ 64;
  counted : (core : ℕ) → core < 64 → get_or l.counts core 0 ≡ times core (numbers_of (take l.core-index l.cores));
  known : AreConfigured g.M.SystemNames.setup (take l.core-index l.cores);
}
