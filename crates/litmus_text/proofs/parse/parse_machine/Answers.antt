use Rattle.litmus_text.proofs.CommandLemmas.{machine_fault, reads_none}
use Rattle.litmus_text.proofs.parse.parse_machine.Goals as goal

pub returns-in_err-no_numbers : goal.returns-in_err-no_numbers
returns-in_err-no_numbers c = λ config.
    reads_none _ c.from_residual.result c.from_residual.ensures.1
    (machine_fault c.args.look config _ _ (λ p has. tt) _ c.in_err-no_numbers.ensures.fault)
