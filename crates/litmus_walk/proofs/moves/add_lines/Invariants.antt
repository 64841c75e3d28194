use Rattle.std.proofs.Common.{◌≡◌, drop}
use Rattle.litmus_walk.specs.Drawn.{with_lines}
use Rattle.litmus_walk.proofs.moves.add_lines.Given as goal

-- the steps that are left add what is missing
abbrev pub invariant-loop-step : goal.invariant-loop-step
invariant-loop-step l = with_lines l.initial.lines.items l.steps ≡ with_lines l.lines.items (drop l.step-index l.steps)
