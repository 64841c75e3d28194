use Rattle.std.proofs.Common.{take}
use Rattle.std.specs.List.{AllZip}
use Rattle.litmus_threads.specs.Found.{HasReply}
use Rattle.litmus_threads.proofs.found.outcome_of.Given as goal

abbrev pub invariant-loop-named_request : goal.invariant-loop-named_request
invariant-loop-named_request l =
    AllZip (HasReply l.audit.receipts.items) (take l.named_request-index l.named_requests) l.values.items
