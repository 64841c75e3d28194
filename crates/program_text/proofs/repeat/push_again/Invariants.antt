use Rattle.std.proofs.Common.{◌≡◌, ◌++◌}
use Rattle.std.specs.Prelude.{slice_range}
use Rattle.program_text.proofs.repeat.push_again.Given as goal

-- those up to this place are there once more
abbrev pub invariant-loop-place : goal.invariant-loop-place
invariant-loop-place l =
    l.steps.items ≡ l.fn.steps.items ++ slice_range l.fn.steps.items l.start l.place
