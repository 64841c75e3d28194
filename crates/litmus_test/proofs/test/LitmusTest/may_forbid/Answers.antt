use Rattle.std.proofs.Common.{refl, sym, ◌∙◌}
use Rattle.std.proofs.lemmas.Bool.{false≢true}
use Rattle.litmus_test.specs.Text.{said_by}
use Rattle.litmus_test.proofs.BodyLemmas.{all_known}
use Rattle.litmus_test.proofs.test.LitmusTest.may_forbid.Goals as goal

pub returns-then-knows_all-clause-may : goal.returns-then-knows_all-clause-may
unfolding said_by
returns-then-knows_all-clause-may c =
    let same = all_known c.args.self.now.names.items c.args.claims.now in
    record { checked = c.args.self.now.sound.checked; known = same ∙ sym c.if-knows_all.ensures }

pub returns-else-knows_all-clause-refused : goal.returns-else-knows_all-clause-refused
unfolding said_by
returns-else-knows_all-clause-refused c = λ may.
    let known = may.known in
    let same = all_known c.args.self.now.names.items c.args.claims.now in
    false≢true (c.if-knows_all.ensures ∙ sym same ∙ known)

pub returns-else-knows_all-clause-fault : goal.returns-else-knows_all-clause-fault
unfolding said_by
returns-else-knows_all-clause-fault c =
    let same = all_known c.args.self.now.names.items c.args.claims.now in (same ∙ sym c.if-knows_all.ensures, refl)
