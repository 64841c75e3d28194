use Rattle.std.proofs.Common.{◌≡◌, length, take}
use Rattle.litmus_test.specs.NamedRequest.{requests_in}
use Rattle.litmus_test.proofs.outcomes.named_request.count_in.Given as goal

abbrev pub invariant-loop-step : goal.invariant-loop-step
invariant-loop-step l = l.count ≡ length (requests_in l.config l.slice.0 (take l.step-index l.steps))
