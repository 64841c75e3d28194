use Rattle.std.proofs.Common.{arith, is_ok, ◌-◌}
use Rattle.std.proofs.lemmas.List.{length-map}
use Rattle.litmus_test.specs.Text.{program_of, said_by}
use Rattle.litmus_test.proofs.BodyLemmas.{name_pushed, named_said, some_thread, sound_named}
use Rattle.litmus_test.proofs.test.LitmusTest.push_named.Goals as goal

pub overflow_sub-thread : goal.overflow_sub-thread
overflow_sub-thread c = omega (arith, some_thread c.args.self.now c.requires.may, c.len-thread.ensures)

pub last_steps-step-requires : goal.last_steps-step-requires
last_steps-step-requires c = some_thread c.args.self.now c.requires.may

pub invariant_of-self : goal.invariant_of-self
invariant_of-self c = record {
  sound = sound_named c.args.self.now c.push_step.new.self c.args.action
      (record { name = c.args.name; thread = c.len-thread.result - 1; step = c.last_steps-step.result })
      c.push.new.self.items (is_ok c.push.result)
      c.in_ok-push_step.ensures.ok c.in_ok-push_step.ensures.names c.requires.fresh c.requires.reads c.requires.form
      (omega (arith, some_thread c.args.self.now c.requires.may, c.len-thread.ensures)) c.last_steps-step.ensures
      c.push.ensures.items;
}

pub returns : goal.returns
unfolding said_by
returns c =
    named_said (said_by c.args.self.now) (said_by c.push_step.new.self) c.args.action c.args.name.now _
    c.in_ok-push_step.ensures.ok
    (name_pushed c.args.self.now c.push_step.new.self.names c.push.new.self c.args.name
    (c.len-thread.result - 1) c.last_steps-step.result c.in_ok-push_step.ensures.names c.in_ok-push.ensures.items
    (omega (
      arith,
      c.len-thread.ensures,
      c.args.self.now.threads.ok.0,
      length-map
          c.args.self.now.threads.items program_of,
    ))
    c.last_steps-step.ensures)
