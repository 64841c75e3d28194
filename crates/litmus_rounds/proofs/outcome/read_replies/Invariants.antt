use Rattle.std.proofs.Common.{take}
use Rattle.litmus_rounds.specs.Outcome.{HasReply, Match}
use Rattle.litmus_rounds.proofs.outcome.read_replies.Given as goal

abbrev pub invariant-loop-request : goal.invariant-loop-request
invariant-loop-request l = Match (HasReply l.recorded.slices) (take l.request-index l.named_requests) l.values.items
