use Rattle.std.proofs.Common.{◌≢◌, ◌<◌, ◌^◌, ℕ, Some, ap, sym, subst, ◌∙◌}
use Rattle.history_judge.specs.Writers.{left_at}
use Rattle.history_judge.proofs.Tables.{says_none}
use Rattle.history_judge.proofs.refutation.is_initial.Goals as goal

pub returns-then-value-initial_of : goal.returns-then-value-initial_of
returns-then-value-initial_of c = λ yes.
    let history = c.args.history.now in
    let word = c.args.word.0 in
    record {
      small = subst (λ n. n < 2 ^ 64) c.initial_of.ensures c.initial_of.type_inv;
      found = sym c.in-Some.ensures ∙ ap Some (c.if-value-initial_of.true ∙ c.initial_of.ensures);
      never =
          subst (λ n. (k : ℕ) → left_at word history k ≢ Some n) (c.if-value-initial_of.true ∙ c.initial_of.ensures)
          (says_none c.in-Some-of_word.writers.now word history c.in-Some.value c.get.result c.is_none.result
          (c.in-Some-of_word.ensures history c.requires) c.get.ensures c.is_none.ensures yes);
    }
