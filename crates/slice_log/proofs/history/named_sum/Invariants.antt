use Rattle.std.proofs.Common.{◌≡◌, ◌*◌, ◌^◌, ◌≤◌, take}
use Rattle.slice_log.specs.Log.{named}
use Rattle.slice_log.proofs.history.named_sum.Given as goal

abbrev pub invariant-loop-entry : goal.invariant-loop-entry
invariant-loop-entry l = record {
  so_far : l.sum ≡ named (take l.entry-index l.entries) l.word.0;
  bounded : l.sum ≤ l.entry-index * 2 ^ 64;
}
