use Rattle.std.proofs.Common.{◌≡◌, ◌==◌, ◌<◌, ◌^◌, Some, sym, subst, ◌∙◌}
use Rattle.std.proofs.lemmas.Bool.{eqb-false, not-true}
use Rattle.history_judge.specs.declared.writers.Writer.TheVariants as writers
use Rattle.history_judge.proofs.Tables.{says_one}
use Rattle.history_judge.proofs.refutation.is_source.Goals as goal

pub returns-then-writer-source : goal.returns-then-writer-source
returns-then-writer-source c = λ yes.
    let same : c.get.result ≡ Some (writers.One c.args.source) = cc in
    record {
      small = subst (λ n. n < 2 ^ 64) c.initial_of.ensures c.initial_of.type_inv;
      value = c.in-Some.value;
      found = sym c.in-Some.ensures;
      other = λ it.
          eqb-false c.in-Some.value c.initial_of.result (not-true (c.in-Some.value == c.initial_of.result) yes)
          (it ∙ sym c.initial_of.ensures);
      alone =
          says_one c.in-Some-of_word.writers.now c.args.word.0 c.args.history.now c.in-Some.value c.args.source
          (c.in-Some-of_word.ensures c.args.history.now c.requires) (sym c.get.ensures ∙ same);
    }
