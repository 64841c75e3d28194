use Rattle.std.proofs.Common.{rules, tests, ap, Some, None, ◌==◌}
use Rattle.std.specs.Option.{option_map_or}
use Rattle.std.proofs.lemmas.Iterator.{YieldsList-from_slice}
use Rattle.std.proofs.lemmas.Iterator.Search.{find_from_yields_List}
use Rattle.history_judge.proofs.initial.initial_of.Goals as goal

pub returns-in-Some : goal.returns-in-Some
returns-in-Some c =
    ap (λ found. option_map_or (λ pair. pair.1) found 0)
    (find_from_yields_List (λ pair. pair.0.0 == c.args.word.0) c.find.new.self _
    (Some c.in-Some.pair) c.in-Some.ensures.ran (YieldsList-from_slice _ c.iter.ensures.rest)
    (λ x b q k. search (rules, tests)))

pub returns-in-None : goal.returns-in-None
returns-in-None c =
    ap (λ found. option_map_or (λ pair. pair.1) found 0)
    (find_from_yields_List (λ pair. pair.0.0 == c.args.word.0) _ _ None c.in-None.ensures.ran
    (YieldsList-from_slice _ c.iter.ensures.rest)
    (λ x b q k. search (rules, tests)))
