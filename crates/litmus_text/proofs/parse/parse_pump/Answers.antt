use Rattle.litmus_text.proofs.CommandLemmas.{pump_fault, reads_none}
use Rattle.litmus_text.proofs.parse.parse_pump.Goals as goal

pub returns-in_err-one_number : goal.returns-in_err-one_number
returns-in_err-one_number c = λ config.
    reads_none _ c.from_residual.result c.from_residual.ensures.1
    (pump_fault config _ _ (λ p has. tt) _ c.in_err-one_number.ensures.fault)
