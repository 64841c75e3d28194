use Rattle.murphi_trace.proofs.PartLemmas.{is_before}
use Rattle.murphi_trace.proofs.fired.in_front.Goals as goal

pub returns : goal.returns
returns c = is_before c.args.mark.now c.args.text.now c.strip_suffix.result c.strip_suffix.ensures.cases
