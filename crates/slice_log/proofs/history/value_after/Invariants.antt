use Rattle.std.proofs.Common.{◌≡◌, take}
use Rattle.slice_log.specs.Log.{value}
use Rattle.slice_log.proofs.history.value_after.Given as goal

abbrev pub invariant-loop-entry : goal.invariant-loop-entry
invariant-loop-entry l = l.value ≡ value l.fn.initial (take l.entry-index l.entries) l.word.0
