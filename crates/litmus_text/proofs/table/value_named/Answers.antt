use Rattle.std.proofs.Common.{rules, tests, ap, Some, None, ◌∙◌}
use Rattle.std.specs.Option.{option_map}
use Rattle.std.specs.Str.{bytes_eq}
use Rattle.std.proofs.lemmas.Iterator.{YieldsList-from_slice}
use Rattle.std.proofs.lemmas.Iterator.Search.{find_from_yields_List}
use Rattle.litmus_text.proofs.TableLemmas.{found_entry}
use Rattle.litmus_text.proofs.table.value_named.Goals as goal

pub returns-in_err-entry : goal.returns-in_err-entry
returns-in_err-entry g c =
    c.from_residual.ensures
    ∙ ap (λ found. option_map (λ entry. entry.1) found)
    (find_from_yields_List (λ entry. bytes_eq entry.0.now c.args.name.now) c.find.new.self _ None
    c.in_err-entry.ensures.ran (YieldsList-from_slice _ c.iter.ensures.rest) (λ x b q k. search (rules, tests)))
    ∙ found_entry c.args.name.now c.args.table.now

pub returns : goal.returns
returns g c =
    ap (λ found. option_map (λ entry. entry.1) found)
    (find_from_yields_List (λ entry. bytes_eq entry.0.now c.args.name.now) c.find.new.self _
    (Some c.in_ok-entry.entry) c.in_ok-entry.ensures.ran (YieldsList-from_slice _ c.iter.ensures.rest)
    (λ x b q k. search (rules, tests)))
    ∙ found_entry c.args.name.now c.args.table.now
