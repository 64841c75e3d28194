use Rattle.murphi_trace.proofs.PartLemmas.{is_parted}
use Rattle.murphi_trace.proofs.fired.parted.Goals as goal

pub returns : goal.returns
returns c = is_parted c.args.mark.now c.args.text.now c.split_once_str.result c.split_once_str.ensures
