use Rattle.std.proofs.Common.{◌≡◌, List, length}
use Rattle.trace_check.specs.Trace.{AreLines}
use Rattle.trace_check.specs.declared.trace_line.TraceLine.{TraceLine}
use Rattle.history_text.proofs.Traces.{IsReadingTrace}
use Rattle.history_text.proofs.read.read_entries.Given as goal

abbrev pub invariant-lines : goal.invariant-lines
invariant-lines l =
    ((some : List TraceLine) → AreLines l.fn.version l.fn.statements some
    → IsReadingTrace l.fn.version l.fn.statements l.statements l.histories)
    × (l.histories.extent ≡ l.fn.extent)

abbrev pub decreases-lines : goal.decreases-lines
decreases-lines l = length l.statements
