use Rattle.litmus_text.proofs.FormLemmas.{no_words}
use Rattle.script_prompt.proofs.OwnLemmas.{cas_alone, cas_lacks, cas_number, cas_numbers, reads_none}
use Rattle.script_prompt.proofs.own.read_cas.Goals as goal

pub returns-in_default : goal.returns-in_default
returns-in_default c =
    rw (no_words (λ w. w.now) c.args.rest.now c.in_default.ensures.cases)
    (record { written = tt; in_range = tt; fault = cas_alone c.args.config.now })

pub returns-in_err-word : goal.returns-in_err-word
returns-in_err-word c =
    rw c.in-Some.ensures.cases.0
    (reads_none _ c.from_residual.result c.from_residual.ensures.1
    (cas_numbers c.args.config.now _ _ _ c.in_err-word.ensures.fault))

pub returns-in_default-parse_number : goal.returns-in_default-parse_number
returns-in_default-parse_number c =
    rw c.in-Some.ensures.cases.0
    (record {
      written = tt;
      in_range = tt;
      fault = cas_number c.args.config.now _ _ _ _ _ c.in_ok-word.ensures.written c.in_default-parse_number.ensures;
    })

pub returns-in_err-core_in : goal.returns-in_err-core_in
returns-in_err-core_in c =
    rw c.in-Some.ensures.cases.0
    (reads_none _ c.from_residual-in_err-core_in.result c.from_residual-in_err-core_in.ensures.1
    (cas_lacks c.args.config.now _ _ _ _ _ _ c.in_ok-word.ensures.written c.in-Some-parse_number.ensures.0
    c.in-Some-parse_number.ensures.1
    c.in_err-core_in.ensures.ok _ c.in_err-core_in.ensures.err))
