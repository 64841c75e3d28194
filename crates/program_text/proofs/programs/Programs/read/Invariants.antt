use Rattle.std.proofs.Common.{length}
use Rattle.std.specs.Str.Lines.{lines}
use Rattle.litmus_text.specs.Statement.{statements_from}
use Rattle.program_text.specs.Reading.{IsReading, said_first}
use Rattle.program_text.proofs.programs.Programs.read.Given as goal

abbrev pub invariant-loop-statement : goal.invariant-loop-statement
invariant-loop-statement l = IsReading (statements_from 0 (lines l.fn.input)) (said_first l.settings) l.statements

abbrev pub decreases-loop-statement : goal.decreases-loop-statement
decreases-loop-statement l = length l.statements
