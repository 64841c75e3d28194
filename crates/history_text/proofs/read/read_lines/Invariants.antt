use Rattle.std.proofs.Common.{◌≡◌, length}
use Rattle.history_text.proofs.Reading.{IsReading}
use Rattle.history_text.proofs.read.read_lines.Given as goal

abbrev pub invariant-lines : goal.invariant-lines
invariant-lines l = IsReading l.fn.statements l.statements l.histories × (l.histories.extent ≡ l.fn.extent)

abbrev pub decreases-lines : goal.decreases-lines
decreases-lines l = length l.statements
