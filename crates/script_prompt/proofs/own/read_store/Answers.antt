use Rattle.litmus_text.proofs.FaultLemmas.{fault_of_form, lacks_three}
use Rattle.litmus_text.specs.Form.{three_parts}
use Rattle.script_prompt.proofs.OwnLemmas.{HasFirst, store_fault, reads_none}
use Rattle.script_prompt.proofs.own.read_store.Goals as goal

pub returns-in_err-core : goal.returns-in_err-core
returns-in_err-core c =
    reads_none _ c.from_residual.result c.from_residual.ensures.1
    (store_fault c.args.config.now _ _ (fault_of_form three_parts (λ p. HasFirst c.args.config.now p.0) _ _
    c.in_err-core.ensures.fault))

pub returns-in_err-core_in : goal.returns-in_err-core_in
returns-in_err-core_in c =
    reads_none _ c.from_residual-in_err-core_in.result c.from_residual-in_err-core_in.ensures.1
    (store_fault c.args.config.now _ _ (lacks_three _ _ _ _ (λ p. HasFirst c.args.config.now p.0)
    c.in_ok-core.ensures.written c.in_ok-core.ensures.only c.in_err-core_in.ensures.ok _ c.in_err-core_in.ensures.err))
