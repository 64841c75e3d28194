use Rattle.std.proofs.Common.{◌∙◌, not, rules, sym, tests}
use Rattle.std.proofs.lemmas.Iterator.{YieldsList-from_slice}
use Rattle.std.proofs.lemmas.Iterator.Search.{position_from_yields_List}
use Rattle.litmus_walk.proofs.place.Place.free_tag.Goals as goal

pub returns-in_err-tag-clause-tag : goal.returns-in_err-tag-clause-tag
returns-in_err-tag-clause-tag c =
    let found = position_from_yields_List not _ _ c.position.result c.position.ensures.ran
    (YieldsList-from_slice _ c.iter.ensures.rest) (λ x b q k. search (rules, tests)) in
    c.from_residual.ensures ∙ sym (sym found ∙ c.in_err-tag.was)

pub returns-clause-tag : goal.returns-clause-tag
returns-clause-tag c =
    let found = position_from_yields_List not _ _ c.position.result c.position.ensures.ran
    (YieldsList-from_slice _ c.iter.ensures.rest) (λ x b q k. search (rules, tests)) in
    sym (sym found ∙ c.in_ok-tag.was)
