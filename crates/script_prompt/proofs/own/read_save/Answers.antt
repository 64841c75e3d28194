use Rattle.litmus_text.proofs.FormLemmas.{no_words}
use Rattle.script_prompt.proofs.OwnLemmas.{reads_none, save_alone, save_more}
use Rattle.script_prompt.proofs.own.read_save.Goals as goal

pub returns-in_default : goal.returns-in_default
returns-in_default c =
    rw (no_words (λ w. w.now) c.args.rest.now c.in_default.ensures.cases)
    (record { written = tt; in_range = tt; fault = save_alone c.args.config.now })

pub returns-in_err-no_numbers : goal.returns-in_err-no_numbers
returns-in_err-no_numbers c =
    rw c.in-Some.ensures.cases.0
    (reads_none _ c.from_residual.result c.from_residual.ensures.1
    (save_more c.args.config.now _ _ _ c.in_err-no_numbers.ensures.fault))
