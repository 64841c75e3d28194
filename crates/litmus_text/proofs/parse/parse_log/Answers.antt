use Rattle.litmus_text.specs.Command.{IsInRange}
use Rattle.litmus_text.specs.declared.command.Command.TheVariants as commands
use Rattle.litmus_text.specs.declared.look.Look.TheVariants as looks
use Rattle.litmus_text.proofs.CommandLemmas.{log_fault, reads_none}
use Rattle.litmus_text.proofs.FaultLemmas.{lacks_one}
use Rattle.litmus_text.proofs.parse.parse_log.Goals as goal

pub returns-in_err-slice : goal.returns-in_err-slice
returns-in_err-slice c =
    reads_none _ c.from_residual.result c.from_residual.ensures.1
    (log_fault _ _ _ (λ p has. tt) _ c.in_err-slice.ensures.fault)

pub returns-in_err-slice_in : goal.returns-in_err-slice_in
returns-in_err-slice_in c =
    reads_none _ c.from_residual-in_err-slice_in.result c.from_residual-in_err-slice_in.ensures.1
    (log_fault _ _ (λ p. IsInRange c.args.config.now (commands.Look (looks.Log (record { 0 = p })))) (λ p has. has) _
    (lacks_one _ _ _ c.in_ok-slice.ensures.written c.in_ok-slice.ensures.only
    (λ has. c.in_err-slice_in.ensures.ok has) _
    c.in_err-slice_in.ensures.err))
