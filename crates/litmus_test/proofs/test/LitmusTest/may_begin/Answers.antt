use Rattle.std.proofs.Common.{arith, inr, refl, sym, ◌∙◌}
use Rattle.std.proofs.lemmas.Bool.{false≢true}
use Rattle.std.proofs.lemmas.Grind.{common_steps}
use Rattle.litmus_test.specs.Text.{said_by}
use Rattle.litmus_test.proofs.BodyLemmas.{has_core-programs}
use Rattle.litmus_test.proofs.test.LitmusTest.may_begin.Goals as goal

pub returns-then-has_thread-clause-refused : goal.returns-then-has_thread-clause-refused
unfolding said_by
returns-then-has_thread-clause-refused c = λ may.
    let first = may.first in
    let same = has_core-programs c.args.core c.args.self.now.threads.items in
    let found = c.if-has_thread.ensures in
    let core = c.in_ok-core.ensures.ok.1 in
    false≢true (sym first ∙ same ∙ sym (rw core at found))

pub returns-clause-may : goal.returns-clause-may
unfolding said_by
returns-clause-may c =
    let same = has_core-programs c.args.core c.args.self.now.threads.items in
    let none = c.if-has_thread.ensures in
    let core = c.in_ok-core.ensures.ok.1 in
    record {
      checked = c.args.self.now.sound.checked;
      no_outcome = grind (arith, common_steps);
      in_range = c.in_ok-core.ensures.ok.0;
      first = same ∙ sym (rw core at none);
    }

pub returns-then-has_thread-clause-fault : goal.returns-then-has_thread-clause-fault
unfolding said_by
returns-then-has_thread-clause-fault c =
    let same = has_core-programs c.args.core c.args.self.now.threads.items in
    let found = c.if-has_thread.ensures in
    let core = c.in_ok-core.ensures.ok.1 in
    inr (grind (arith, common_steps), inr (same ∙ sym (rw core at found)), refl)
