use Rattle.std.proofs.Common.{not, rules, tests}
use Rattle.std.proofs.lemmas.Iterator.{YieldsList-from_slice}
use Rattle.std.proofs.lemmas.Iterator.Search.{all_from_yields_List}
use Rattle.litmus_walk.proofs.place.Place.is_settled.Goals as goal

pub returns : goal.returns
returns c =
    all_from_yields_List not _ _ c.all.result c.all.ensures.ran (YieldsList-from_slice _ c.iter.ensures.rest)
    (λ x b q k. search (rules, tests))
