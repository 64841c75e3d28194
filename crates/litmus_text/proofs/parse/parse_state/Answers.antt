use Rattle.litmus_text.specs.Command.{IsInRange}
use Rattle.litmus_text.specs.declared.command.Command.TheVariants as commands
use Rattle.litmus_text.specs.declared.look.Look.TheVariants as looks
use Rattle.litmus_text.proofs.CommandLemmas.{state_fault, reads_none}
use Rattle.litmus_text.proofs.FaultLemmas.{lacks_one}
use Rattle.litmus_text.proofs.parse.parse_state.Goals as goal

pub returns-in_err-line : goal.returns-in_err-line
returns-in_err-line c =
    reads_none _ c.from_residual.result c.from_residual.ensures.1
    (state_fault _ _ _ (λ p has. tt) _ c.in_err-line.ensures.fault)

pub returns-in_err-line_in : goal.returns-in_err-line_in
returns-in_err-line_in c =
    reads_none _ c.from_residual-in_err-line_in.result c.from_residual-in_err-line_in.ensures.1
    (state_fault _ _ (λ p. IsInRange c.args.config.now (commands.Look (looks.State (record { 0 = p })))) (λ p has. has) _
    (lacks_one _ _ _ c.in_ok-line.ensures.written c.in_ok-line.ensures.only (λ has. c.in_err-line_in.ensures.ok has) _
    c.in_err-line_in.ensures.err))
