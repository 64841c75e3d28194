use Rattle.std.proofs.Common.{◌≡◌, ◌-◌, ◌++◌, drop}
use Rattle.program_text.specs.Text.{times}
use Rattle.program_text.proofs.repeat.repeat.Given as goal

-- they are there once, and once more for each round
abbrev pub invariant-loop-round : goal.invariant-loop-round
invariant-loop-round l =
    l.steps.items ≡ l.fn.steps.items ++ times (l._round - 1) (drop l.start l.fn.steps.items)
