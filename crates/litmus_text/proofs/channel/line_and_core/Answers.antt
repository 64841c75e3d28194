use Rattle.litmus_text.specs.Command.{HasLineAndCore}
use Rattle.litmus_text.specs.Form.{two_parts}
use Rattle.litmus_text.proofs.FaultLemmas.{fault_of_form, handed_on, lacks_two}
use Rattle.litmus_text.proofs.channel.line_and_core.Goals as goal

pub returns-in_err-line-clause-fault : goal.returns-in_err-line-clause-fault
returns-in_err-line-clause-fault c =
    handed_on _ _ c.from_residual.result c.from_residual.ensures.1
    (fault_of_form two_parts (HasLineAndCore c.args.config.now) _ _ c.in_err-line.ensures.fault)

pub returns-in_err-line_in-clause-fault : goal.returns-in_err-line_in-clause-fault
returns-in_err-line_in-clause-fault c =
    handed_on _ _ c.from_residual-in_err-line_in.result c.from_residual-in_err-line_in.ensures.1
    (lacks_two _ _ _ (HasLineAndCore c.args.config.now) c.in_ok-line.ensures.written c.in_ok-line.ensures.only
    (λ has. c.in_err-line_in.ensures.ok has.0) _ c.in_err-line_in.ensures.err)

pub returns-in_err-core_in-clause-fault : goal.returns-in_err-core_in-clause-fault
returns-in_err-core_in-clause-fault c =
    handed_on _ _ c.from_residual-in_err-core_in.result c.from_residual-in_err-core_in.ensures.1
    (lacks_two _ _ _ (HasLineAndCore c.args.config.now) c.in_ok-line.ensures.written c.in_ok-line.ensures.only
    (λ has. c.in_err-core_in.ensures.ok has.1) _ c.in_err-core_in.ensures.err)
