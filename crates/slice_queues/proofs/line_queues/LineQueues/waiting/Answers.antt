use Rattle.std.proofs.Common.{◌∙◌}
use Rattle.slice_queues.specs.Waiting.{line_waiting}
use Rattle.slice_queues.proofs.WaitingLaws.{filter-any}
use Rattle.slice_queues.proofs.line_queues.LineQueues.waiting.Goals as goal

pub returns-clause-order : goal.returns-clause-order
returns-clause-order c = c.waiting_in.ensures.order ∙ filter-any (line_waiting c.args.self.now)
