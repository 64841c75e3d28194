use Rattle.std.proofs.Common.{ℕ, subst}
use Rattle.std.proofs.lemmas.Option.{slice_get_within, get_or_from_slice_get}
use Rattle.slice_log.specs.Log.{initially}
use Rattle.history_judge.specs.Before.{IsBeforeIn}
use Rattle.history_judge.proofs.refutation.comes_first.Goals as goal

pub returns-in-Shown : goal.returns-in-Shown
returns-in-Shown c = λ yes.
    let shown = c.args.shown.now in
    let here = c.is_shown.ensures yes in
    let pair : ℕ × ℕ = (c.args.first, c.args.last) in
    subst (λ (p : ℕ × ℕ). IsBeforeIn (initially c.args.initial.now) c.args.history.now p.0 p.1)
    (get_or_from_slice_get shown c.in-Shown.number pair pair here)
    (c.requires.shown c.in-Shown.number pair (slice_get_within shown c.in-Shown.number pair here))
