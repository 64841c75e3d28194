use Rattle.std.proofs.Common.{◌≡◌, ◌++◌, map}
use Rattle.std.specs.Str.Lines.{lines}
use Rattle.litmus_text.specs.Statement.{statements_from}
use Rattle.script_test.proofs.answer.numbers_of.Given as goal

abbrev pub invariant-loop-statement : goal.invariant-loop-statement
invariant-loop-statement l =
    l.numbers.items ++ map (λ s. s.0) l.statement-iterator ≡ map (λ s. s.0) (statements_from 0 (lines l.script))
