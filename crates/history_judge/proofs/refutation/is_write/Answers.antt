use Rattle.std.proofs.Common.{ℕ, Option, is_some, ap, sym, ◌∙◌}
use Rattle.history_judge.proofs.Tables.{wrote}
use Rattle.history_judge.proofs.refutation.is_write.Goals as goal

pub returns-in-Some : goal.returns-in-Some
returns-in-Some c = λ yes.
    wrote c.args.word.0 c.args.history.now c.args.place c.in-Some.access (sym c.in-Some.ensures.value)
    (sym (ap (λ (o : Option ℕ). is_some o) c.left_in.ensures) ∙ sym c.is_some.ensures ∙ yes)
