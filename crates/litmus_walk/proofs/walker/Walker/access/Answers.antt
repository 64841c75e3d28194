use Rattle.std.proofs.Common.{Some, false, refl, true}
use Rattle.litmus_test.specs.declared.test.Action.TheVariants as actions
use Rattle.litmus_text.specs.declared.command.Command.TheVariants as commands
use Rattle.litmus_walk.specs.Done.{steps_of}
use Rattle.litmus_walk.proofs.DoneLemmas.{done-made, done-stalled}
use Rattle.litmus_walk.proofs.walker.Walker.access.Goals as goal

pub returns-in-Done-clause-done : goal.returns-in-Done-clause-done
returns-in-Done-clause-done c = λ threads is.
    let makes = rw c.in-Done.is at c.in_ok-issue.ensures.made in
    rw (c.done.ensures.recorded, c.done.ensures.steps, makes.calls)
    (done-made threads (steps_of c.args.self.now.places.items) c.args.self.now.recorded.calls (record {
      command = commands.Issue c.args.program.now.core
          (record { op = c.args.op; word = c.args.word; tag = c.in-Some.tag });
      step = Some c.args.at;
      done = true;
    }) c.args.at
    c.args.program.now (actions.Access c.args.word c.args.op) refl refl refl is c.requires.asks c.requires.stands)

pub returns-in-Pending-clause-done : goal.returns-in-Pending-clause-done
returns-in-Pending-clause-done c = λ threads is.
    let makes = rw c.in-Pending.is at c.in_ok-issue.ensures.made in
    rw (
      c.done-in-Pending.ensures.recorded,
      c.done-in-Pending.ensures.steps,
      c.set_waiting.ensures.recorded,
      c.set_waiting.ensures.steps,
      makes.calls,
    )
    (done-made threads (steps_of c.args.self.now.places.items) c.args.self.now.recorded.calls (record {
      command = commands.Issue c.args.program.now.core
          (record { op = c.args.op; word = c.args.word; tag = c.in-Some.tag });
      step = Some c.args.at;
      done = true;
    }) c.args.at
    c.args.program.now (actions.Access c.args.word c.args.op) refl refl refl is c.requires.asks c.requires.stands)

pub returns-in-Stall-clause-done : goal.returns-in-Stall-clause-done
returns-in-Stall-clause-done c = λ threads is.
    let makes = rw c.in-Stall.is at c.in_ok-issue.ensures.made in
    rw (makes.calls)
    (done-stalled threads (steps_of c.args.self.now.places.items) c.args.self.now.recorded.calls (record {
      command = commands.Issue c.args.program.now.core
          (record { op = c.args.op; word = c.args.word; tag = c.in-Some.tag });
      step = Some c.args.at;
      done = false;
    }) c.args.at refl refl)

pub returns-in-Refused-clause-done : goal.returns-in-Refused-clause-done
returns-in-Refused-clause-done c = λ threads is.
    let makes = rw c.in-Refused.is at c.in_ok-issue.ensures.made in
    rw (makes.calls)
    (done-stalled threads (steps_of c.args.self.now.places.items) c.args.self.now.recorded.calls (record {
      command = commands.Issue c.args.program.now.core
          (record { op = c.args.op; word = c.args.word; tag = c.in-Some.tag });
      step = Some c.args.at;
      done = false;
    }) c.args.at refl refl)
