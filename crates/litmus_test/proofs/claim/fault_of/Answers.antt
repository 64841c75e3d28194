use Rattle.std.proofs.Common.{refl, sym, ◌∙◌}
use Rattle.std.proofs.lemmas.Bool.{false≢true}
use Rattle.litmus_test.proofs.ClaimLemmas.{all_forms}
use Rattle.litmus_test.proofs.claim.fault_of.Goals as goal

pub returns-then-have_form : goal.returns-then-have_form
returns-then-have_form c = record {
  as_form = λ form. refl;
  other = λ none. absurd (none (sym (all_forms c.args.words.now) ∙ sym c.if-have_form.ensures));
}

pub returns-else-have_form : goal.returns-else-have_form
returns-else-have_form c = record {
  as_form = λ form. absurd (false≢true (c.if-have_form.ensures ∙ all_forms c.args.words.now ∙ form));
  other = λ none. refl;
}
