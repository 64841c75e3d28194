use Rattle.std.proofs.Common.{◌≡◌, ◌%◌, ◌^◌, take}
use Rattle.slice_log.specs.Log.{named}
use Rattle.litmus_threads.proofs.notes.added_to.Given as goal

abbrev pub invariant-loop-entry : goal.invariant-loop-entry
invariant-loop-entry l = l.sum ≡ named (take l.entry-index l.log) l.word.0 % 2 ^ 64
