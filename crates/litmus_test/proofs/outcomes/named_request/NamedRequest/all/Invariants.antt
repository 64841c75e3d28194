use Rattle.std.proofs.Common.{◌≡◌, map}
use Rattle.std.specs.List.{range_with_len}
use Rattle.litmus_test.specs.NamedRequest.{named_request_of}
use Rattle.litmus_test.proofs.outcomes.named_request.NamedRequest.all.Given as goal

abbrev pub invariant-loop-name : goal.invariant-loop-name
invariant-loop-name l = l.all.items ≡ map (named_request_of l.test) (range_with_len 0 l.name)
