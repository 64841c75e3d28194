use Rattle.std.proofs.Common.{◌≡◌, Option, Some, sym, ap, subst, ◌∙◌}
use Rattle.address_map.specs.Locator.{Lines, local_at}
use Rattle.address_map.specs.Place.{line_of}
use Rattle.address_map.specs.declared.address.LineAddr.{LineAddr}
use Rattle.address_map.specs.declared.address.Local.{Local}
use Rattle.address_map.specs.declared.address.Offset.{Offset}
use Rattle.slice_core.proofs.Coherent.{shows_last}
use Rattle.slice_core.proofs.state.SliceState.word_now.Given.{Over}
use Rattle.slice_core.proofs.state.SliceState.word_now.Goals as goal
use Rattle.slice_core.specs.Facts.{ShowsLast}
use Rattle.slice_core_spec.specs.Calls.{PartsView}
use Rattle.slice_core_spec.specs.View.{IsQuiet, word_now}

-- the word's line is one of the slice's
found : (g : Over) (c : goal.After-word_now g)
    → local_at c.self.inside.parts.view.lines (line_of c.args.word).0 ≡ Some c.in-Some.local
found g c =
    sym (c.local_of.ensures.local
    ∙ ap (λ (lines : Lines). local_at lines c.line.result.0) c.lines.ensures
    ∙ ap (λ (line : LineAddr). local_at c.self.inside.parts.view.lines line.0) c.line.ensures)
    ∙ c.in-Some.is

pub returns-clause-newest : goal.returns-clause-newest
returns-clause-newest g c =
    let p = c.self.inside.parts in
    let quiet = subst (λ (p : PartsView). IsQuiet p.view) (sym c.self.view_is) c.requires.quiet in
    let shown =
    c.word_now.ensures ∙ ap (λ (offset : Offset). word_now p.view c.in-Some.local offset.0) c.offset.ensures.offset in
    subst (λ (p : PartsView).
    ShowsLast p.view c.args.word (local_at p.view.lines (line_of c.args.word).0) c.word_now.result) c.self.view_is
    (subst (λ (place : Option Local). ShowsLast p.view c.args.word place c.word_now.result) (sym (found g c))
    (shows_last p c.self.invariant quiet c.args.word (Some c.in-Some.local) c.word_now.result (found g c) shown))
