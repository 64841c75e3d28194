use Rattle.std.proofs.Common.{map, rules}
use Rattle.litmus_text.proofs.FaultLemmas.{handed_on}
use Rattle.script_prompt.proofs.AskedLemmas.{asks_nothing}
use Rattle.script_prompt.proofs.asked.read_asked.Goals as goal

pub returns-in_err-own-clause-refused : goal.returns-in_err-own-clause-refused
returns-in_err-own-clause-refused c =
    rw c.in-Some.ensures.cases.0
    (handed_on _ _ c.from_residual.result c.from_residual.ensures.1
    (asks_nothing c.args.config.now c.in-Some.name.now.now (map (λ w. w.now) c.in-Some.rest.now) c.in-Some-own_word.word
    c.in-Some-own_word.ensures.found (λ field. search rules) _ c.in_err-own.ensures.fault))

pub returns-in_err-own-clause-fault : goal.returns-in_err-own-clause-fault
returns-in_err-own-clause-fault c =
    rw c.in-Some.ensures.cases.0
    (handed_on _ _ c.from_residual.result c.from_residual.ensures.1 (
      (c.in-Some-own_word.word, c.in-Some-own_word.ensures.found),
      rw c.in-Some-own_word.ensures.found
          c.in_err-own.ensures.fault,
    ))
