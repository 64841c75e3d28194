use Rattle.murphi_trace.proofs.PartLemmas.{is_behind}
use Rattle.murphi_trace.proofs.fired.behind.Goals as goal

pub returns : goal.returns
returns c = is_behind c.args.mark.now c.args.text.now c.strip_prefix.result c.strip_prefix.ensures.cases
