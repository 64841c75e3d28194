use Rattle.std.proofs.Common.{◌≡◌, map, take}
use Rattle.mshr_file.specs.Waiting.{at_line, entry_at}
use Rattle.mshr_file.proofs.entry_table.targets_at.Given as goal

abbrev pub invariant-loop-slot : goal.invariant-loop-slot
invariant-loop-slot l = l.targets.items ≡ at_line l.line.0 (map (entry_at l.entries) (take l.slot-index l.slots))
