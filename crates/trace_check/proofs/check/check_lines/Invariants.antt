use Rattle.std.proofs.Common.{◌≡◌, length}
use Rattle.trace_check.specs.Trace.{IsReading}
use Rattle.trace_check.proofs.check.check_lines.Given as goal

abbrev pub invariant-lines : goal.invariant-lines
invariant-lines l = record {
  reading : IsReading l.check l.fn.statements l.statements;
  version : l.check.version ≡ l.fn.version;
}

abbrev pub decreases-lines : goal.decreases-lines
decreases-lines l = length l.statements
