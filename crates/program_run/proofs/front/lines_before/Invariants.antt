use Rattle.program_run.specs.Front.{IsApart}
use Rattle.program_run.proofs.front.lines_before.Given as goal

-- those so far are neither
abbrev pub invariant-loop-place : goal.invariant-loop-place
invariant-loop-place l = IsApart l.state l.place l.line l.left
