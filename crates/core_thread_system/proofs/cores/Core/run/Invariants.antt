use Rattle.std.specs.Prelude.{◌≡◌, ◌+◌, ℕ, Some, slice_get, take}
use Rattle.core_thread_system.specs.Moves.{HasRun}
use Rattle.core_thread_system.specs.declared.program.Step.TheVariants as steps
use Rattle.core_thread_system.proofs.cores.Core.run.Given as goal

abbrev pub invariant-loop-place : goal.invariant-loop-place
invariant-loop-place g l = record {
  ran : HasRun g.M.SystemNames.setup l.fn.self (take l.place l.program) l.self;
  settled : (at : ℕ) → at + 1 ≡ l.place → slice_get l.program at ≡ Some steps.Settle → l.self.tags ≡ 0;
}
