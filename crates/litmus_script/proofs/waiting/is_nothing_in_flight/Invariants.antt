use Rattle.std.proofs.Common.{◌≡◌, drop}
use Rattle.litmus_script.specs.Waiting.{in_flight}
use Rattle.litmus_script.proofs.waiting.is_nothing_in_flight.Given as goal

-- no message is in flight in the slices so far
abbrev pub invariant-loop-state : goal.invariant-loop-state
invariant-loop-state l = in_flight (drop l.state-index l.slices) ≡ in_flight l.slices
