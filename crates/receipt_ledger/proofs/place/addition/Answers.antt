use Rattle.std.proofs.Common.{◌==◌, sym, ◌∙◌, ap, arith}
use Rattle.std.proofs.lemmas.List.Quantifiers.{position-Some}
use Rattle.slice_log.specs.Log.{added_by}
use Rattle.receipt_ledger.specs.Sums.{only}
use Rattle.receipt_ledger.proofs.Places.{adds_nothing, adds_nowhere, adds_there}
use Rattle.receipt_ledger.proofs.place.addition.Goals as goal

pub returns-in_default : goal.returns-in_default
returns-in_default c = adds_nothing c.args.words.now c.args.entry.now c.in_default.not-Add

pub returns-in_err-place_of : goal.returns-in_err-place_of
returns-in_err-place_of c =
    rw c.from_residual.ensures
    (adds_nowhere c.args.words.now c.args.entry.now (sym c.place_of.ensures ∙ c.in_err-place_of.was))

pub returns : goal.returns
returns c =
    let words = c.args.words.now in
    let e = c.args.entry.now in
    let place = c.in_ok-place_of.field-0 in
    let found = sym c.place_of.ensures ∙ c.in_ok-place_of.was in
    let there = adds_there words e place c.requires.ascending found in (
      omega (arith, c.requires.few, (position-Some (λ word. word.0 == e.word.0) words place e.word found).0),
      there ∙ ap (λ op. only place (added_by op)) c.in-Add.is,
    )
