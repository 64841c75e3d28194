use Rattle.litmus_text.proofs.WrittenLemmas.{issue_text}
use Rattle.litmus_text.proofs.writer.command.write_issue.Goals as goal

pub returns : goal.returns
returns g c = rw (issue_text c.args.core.0 c.args.request.tag c.args.request.word.0 c.args.request.op) at c.writeln.ensures.writes
