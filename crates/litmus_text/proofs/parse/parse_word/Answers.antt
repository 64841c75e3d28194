use Rattle.litmus_text.specs.Command.{IsInRange}
use Rattle.litmus_text.specs.declared.command.Command.TheVariants as commands
use Rattle.litmus_text.specs.declared.look.Look.TheVariants as looks
use Rattle.litmus_text.proofs.CommandLemmas.{word_fault, reads_none}
use Rattle.litmus_text.proofs.FaultLemmas.{lacks_one}
use Rattle.litmus_text.proofs.parse.parse_word.Goals as goal

pub returns-in_err-word : goal.returns-in_err-word
returns-in_err-word c =
    reads_none _ c.from_residual.result c.from_residual.ensures.1
    (word_fault _ _ _ (λ p has. tt) _ c.in_err-word.ensures.fault)

pub returns-in_err-word_in : goal.returns-in_err-word_in
returns-in_err-word_in c =
    reads_none _ c.from_residual-in_err-word_in.result c.from_residual-in_err-word_in.ensures.1
    (word_fault _ _ (λ p. IsInRange c.args.config.now (commands.Look (looks.Word (record { 0 = p })))) (λ p has. has) _
    (lacks_one _ _ _ c.in_ok-word.ensures.written c.in_ok-word.ensures.only (λ has. c.in_err-word_in.ensures.ok has) _
    c.in_err-word_in.ensures.err))
