use Rattle.std.proofs.Common.{◌≡◌, ◌++◌}
use Rattle.std.specs.Str.Lines.{lines}
use Rattle.program_sweep.specs.Text.{left_with, with_settings}
use Rattle.program_sweep.proofs.text.insert.Given as goal

-- what is made, and what the lines that are left make, are the whole
abbrev pub invariant-loop-line : goal.invariant-loop-line
invariant-loop-line l =
    l.text.items ++ left_with l.added l.is_before l.line-iterator ≡ with_settings l.added (lines l.input)
