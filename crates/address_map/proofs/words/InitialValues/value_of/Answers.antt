use Rattle.std.proofs.Common.{rules, refl, Ok, Err}
use Rattle.std.proofs.lemmas.List.Sorted.{answers_always}
use Rattle.address_map.proofs.Find.{find-searched}
use Rattle.address_map.proofs.words.InitialValues.value_of.Goals as goal

pub returns-in-Ok : goal.returns-in-Ok
returns-in-Ok c =
    let by_word = c.in-Ok.ensures.position (λ pair. pair.0.0) (answers_always _ _ _ (λ f a r g called. search rules)) in
    let found =
    find-searched (λ pair. pair.0.0) c.as_slice-pairs.result.now c.args.word.0 (record { 0 = 0 }, 0) (Ok c.in-Ok.at)
    (rw c.as_slice-pairs.ensures c.requires) c.in-Ok.ensures.bound by_word
    in
    rw (← c.as_slice-pairs.ensures, found) refl

pub returns-in-Err : goal.returns-in-Err
returns-in-Err c =
    let by_word =
    c.in-Err.ensures.position (λ pair. pair.0.0) (answers_always _ _ _ (λ f a r g called. search rules)) in
    let missing =
    find-searched (λ pair. pair.0.0) c.as_slice-pairs.result.now c.args.word.0 (record { 0 = 0 }, 0)
    (Err c.in-Err.field-0)
    (rw c.as_slice-pairs.ensures c.requires) c.in-Err.ensures.bound by_word
    in
    rw (← c.as_slice-pairs.ensures, missing) refl
