use Rattle.std.proofs.Common.{ap, ◌∙◌}
use Rattle.slice_queues.specs.Line.{has_mail}
use Rattle.slice_queues.proofs.line_queues.LineQueues.has_mail.Goals as goal

pub returns : goal.returns
returns c = c.self.invariant.flag ∙ ap has_mail c.self.view_is
