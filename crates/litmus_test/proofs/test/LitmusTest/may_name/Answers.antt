use Rattle.std.proofs.Common.{arith, inl, inr, refl, sym, ◌∙◌}
use Rattle.std.proofs.lemmas.Bool.{false≢true}
use Rattle.std.proofs.lemmas.Grind.{common_steps}
use Rattle.litmus_test.specs.Text.{said_by}
use Rattle.litmus_test.proofs.BodyLemmas.{has_name-replies}
use Rattle.litmus_test.proofs.test.LitmusTest.may_name.Goals as goal

pub returns-then-knows-clause-refused : goal.returns-then-knows-clause-refused
unfolding said_by
returns-then-knows-clause-refused c = λ may.
    let first = may.fresh in
    let same = has_name-replies c.args.name.now c.args.self.now.names.items in
    false≢true (sym first ∙ same ∙ sym c.if-knows.ensures)

pub returns-clause-may : goal.returns-clause-may
unfolding said_by
returns-clause-may c =
    let same = has_name-replies c.args.name.now c.args.self.now.names.items in
    record { fresh = same ∙ sym c.if-knows.ensures; few = grind (arith, common_steps) }

pub returns-then-knows-clause-fault : goal.returns-then-knows-clause-fault
unfolding said_by
returns-then-knows-clause-fault c =
    let same = has_name-replies c.args.name.now c.args.self.now.names.items in
    inl (same ∙ sym c.if-knows.ensures, refl)

pub returns-then-has_all_names-clause-fault : goal.returns-then-has_all_names-clause-fault
unfolding said_by
returns-then-has_all_names-clause-fault c =
    let same = has_name-replies c.args.name.now c.args.self.now.names.items in
    inr (same ∙ sym c.if-knows.ensures, grind (arith, common_steps), refl)
