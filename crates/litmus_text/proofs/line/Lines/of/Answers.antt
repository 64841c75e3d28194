use Rattle.litmus_text.proofs.LineLemmas.{length-lines}
use Rattle.litmus_text.proofs.line.Lines.of.Goals as goal

pub returns-clause-len : goal.returns-clause-len
returns-clause-len c = length-lines c.args.text.now
