use Rattle.std.proofs.Common.{length}
use Rattle.litmus_test.specs.Reading.{IsReading, said_first}
use Rattle.litmus_test.specs.Text.{said_nothing}
use Rattle.litmus_test.proofs.reader.read_statements.Given as goal

abbrev pub invariant-loop-statement : goal.invariant-loop-statement
invariant-loop-statement l =
    IsReading l.fn.version said_nothing (said_first l.preamble) l.fn.statements l.statements

abbrev pub decreases-loop-statement : goal.decreases-loop-statement
decreases-loop-statement l = length l.statements
