use Rattle.std.proofs.Common.{ap, not}
use Rattle.slice_queues.proofs.MailLaws.{IsEmptyLine-from_quiet}
use Rattle.slice_queues.proofs.line_queues.LineQueues.is_empty.Goals as goal

pub returns-clause-empty : goal.returns-clause-empty
returns-clause-empty c = IsEmptyLine-from_quiet _ _ (ap not c.has_mail.ensures)
