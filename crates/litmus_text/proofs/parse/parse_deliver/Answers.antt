use Rattle.litmus_text.proofs.CommandLemmas.{deliver_fault, reads_none}
use Rattle.litmus_text.proofs.parse.parse_deliver.Goals as goal

pub returns-in_err-parse_pick : goal.returns-in_err-parse_pick
returns-in_err-parse_pick c =
    reads_none _ c.from_residual.result c.from_residual.ensures.1
    (deliver_fault _ _ _ c.in_err-parse_pick.ensures.fault)
