use Rattle.std.proofs.Common.{◌-◌, length}
use Rattle.program_run.specs.Front.{HasIdleFront}
use Rattle.program_run.proofs.front.first_front.Given as goal

-- the lines so far are idle
abbrev pub invariant-loop-line : goal.invariant-loop-line
invariant-loop-line l = HasIdleFront l.idle l.state

abbrev pub decreases-loop-line : goal.decreases-loop-line
decreases-loop-line l = length l.state.ring - l.idle
