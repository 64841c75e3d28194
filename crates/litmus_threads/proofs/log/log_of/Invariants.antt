use Rattle.std.proofs.Common.{◌≡◌, List, take}
use Rattle.litmus_threads.specs.Log.{AreEntriesOf}
use Rattle.slice_log.specs.declared.entry.Entry.{Entry}
use Rattle.litmus_threads.proofs.log.log_of.Given as goal

-- the log has the entries below the number
abbrev pub invariant-loop-number : goal.invariant-loop-number
invariant-loop-number l =
    (whole : List Entry) → AreEntriesOf l.slice l.receipts whole → l.log.items ≡ take l.number whole
