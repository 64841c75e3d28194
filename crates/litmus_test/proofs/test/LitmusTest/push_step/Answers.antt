use Rattle.std.proofs.Common.{arith, ap, is_ok, ◌∙◌, ◌++◌, ◌∷◌, []}
use Rattle.litmus_test.specs.declared.test.Thread.{Thread}
use Rattle.litmus_test.specs.Text.{said_by}
use Rattle.litmus_test.proofs.BodyLemmas.{some_thread, sound_last, with_step-programs, with_threads}
use Rattle.litmus_test.proofs.test.LitmusTest.push_step.Goals as goal

pub overflow_sub-last : goal.overflow_sub-last
overflow_sub-last c = omega (arith, some_thread c.args.self.now c.requires.may, c.len-last.ensures)

pub index_mut-requires : goal.index_mut-requires
index_mut-requires c = omega (arith, some_thread c.args.self.now c.requires.may, c.len-last.ensures)

pub invariant_of-self : goal.invariant_of-self
invariant_of-self c = record {
  sound = sound_last c.args.self.now c.args.action _ _ c.index_mut.result.now c.push.new.self (is_ok c.push.result)
      c.requires.may c.requires.is (omega (arith, some_thread c.args.self.now c.requires.may, c.len-last.ensures))
      c.index_mut.ensures.value c.push.ensures.items;
}

pub returns-clause-ok : goal.returns-clause-ok
unfolding said_by
returns-clause-ok c =
    with_threads (said_by c.args.self.now) _ _
    (with_step-programs c.args.action c.args.self.now.threads.items _
    (record { core = c.index_mut.result.now.core; steps = c.push.new.self }) _
    (omega (arith, some_thread c.args.self.now c.requires.may, c.len-last.ensures, c.args.self.now.threads.ok.0))
    (ap (λ (t : Thread). t.core) c.index_mut.ensures.value)
    (c.in_ok-push.ensures.items ∙ ap (λ (t : Thread). t.steps.items ++ c.args.action ∷ []) c.index_mut.ensures.value))
