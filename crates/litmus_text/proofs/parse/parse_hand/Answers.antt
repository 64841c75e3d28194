use Rattle.litmus_text.specs.Command.{IsInRange}
use Rattle.litmus_text.specs.declared.command.Command.TheVariants as commands
use Rattle.litmus_text.proofs.CommandLemmas.{hand_fault, reads_none}
use Rattle.litmus_text.proofs.FaultLemmas.{lacks_two}
use Rattle.litmus_text.proofs.parse.parse_hand.Goals as goal

pub returns-in_err-core : goal.returns-in_err-core
returns-in_err-core c =
    reads_none _ c.from_residual.result c.from_residual.ensures.1
    (hand_fault _ _ _ (λ p has. tt) _ c.in_err-core.ensures.fault)

pub returns-in_err-core_in : goal.returns-in_err-core_in
returns-in_err-core_in c =
    reads_none _ c.from_residual-in_err-core_in.result c.from_residual-in_err-core_in.ensures.1
    (hand_fault _ _ (λ p. IsInRange c.args.config.now
    (commands.Hand (record { 0 = p.0 }) (record { 0 = p.1 }))) (λ p has. has) _
    (lacks_two _ _ _ _ c.in_ok-core.ensures.written c.in_ok-core.ensures.only
    (λ has. c.in_err-core_in.ensures.ok has.0) _
    c.in_err-core_in.ensures.err))

pub returns-in_err-slice_in : goal.returns-in_err-slice_in
returns-in_err-slice_in c =
    reads_none _ c.from_residual-in_err-slice_in.result c.from_residual-in_err-slice_in.ensures.1
    (hand_fault _ _ (λ p. IsInRange c.args.config.now
    (commands.Hand (record { 0 = p.0 }) (record { 0 = p.1 }))) (λ p has. has) _
    (lacks_two _ _ _ _ c.in_ok-core.ensures.written c.in_ok-core.ensures.only
    (λ has. c.in_err-slice_in.ensures.ok has.1) _
    c.in_err-slice_in.ensures.err))
