use Rattle.std.proofs.Common.{◌≡◌, ◌-◌, drop, length}
use Rattle.mshr_file.specs.Waiting.{lines_from}
use Rattle.mshr_file.proofs.entry_table.lines_from.Given as goal

-- those of the last slots, as many as were seen
abbrev pub invariant-loop-seen : goal.invariant-loop-seen
invariant-loop-seen l = l.lines.items ≡ lines_from (drop (length l.slots - l.seen) l.slots)
