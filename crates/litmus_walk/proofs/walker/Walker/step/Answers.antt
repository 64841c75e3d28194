use Rattle.std.proofs.Common.{◌≡◌, ◌∙◌, Some, ap, refl, true}
use Rattle.std.specs.Prelude.{slice_get}
use Rattle.litmus_test.specs.declared.test.Action.TheVariants as actions
use Rattle.litmus_text.specs.declared.command.Command.TheVariants as commands
use Rattle.litmus_walk.specs.Done.{steps_of}
use Rattle.litmus_walk.proofs.DoneLemmas.{done-made, done-settled, item-at, steps-at}
use Rattle.litmus_walk.proofs.WalkLemmas.{walks_by}
use Rattle.litmus_walk.proofs.walker.Walker.step.Goals as goal

pub returns-in-Some-Access-clause-done : goal.returns-in-Some-Access-clause-done
returns-in-Some-Access-clause-done c =
    let look = rw c.deref.ensures.value at c.in-Some-Some.ensures.lookup in
    c.access.ensures.done c.args.test.now.threads.items
    (item-at c.args.test.now.threads.items c.args.thread c.in-Some-Some.program.now look.3.0 look.1)

pub returns-in_ok-evict-in-Some-Evict-clause-walks : goal.returns-in_ok-evict-in-Some-Evict-clause-walks
returns-in_ok-evict-in-Some-Evict-clause-walks c =
    let threads = c.args.test.now.threads.items in
    let steps = steps_of c.args.self.now.places.items in
    let calls = c.args.self.now.recorded.calls in
    let program = c.in-Some-Some.program.now in
    let number = c.in-Some-Some.place.now.step in
    let look = rw c.deref.ensures.value at c.in-Some-Some.ensures.lookup in
    let is_thread = item-at threads c.args.thread program look.3.0 look.1 in
    let own = rw c.deref-3.ensures.value at c.in-Some-Evict.ensures.lookup in
    let is_step : slice_get program.steps.items number ≡ Some (actions.Evict c.in-Some-Evict.line) =
    item-at program.steps.items number c.in-Some-Evict.field-0.now own.3.0 own.1 ∙ ap Some c.in-Some-Evict.field-0-is in
    rw c.done.ensures.recorded
    (walks_by threads c.args.self.now.recorded c.evict.new.self
    (record {
      command = commands.Evict program.core c.in-Some-Evict.line;
      step = Some (record { thread = c.args.thread; step = number });
      done = true;
    })
    (rw is_thread (refl, is_step)) c.in_ok-evict-in-Some-Evict.ensures)

pub returns-in_ok-evict-in-Some-Evict-clause-done : goal.returns-in_ok-evict-in-Some-Evict-clause-done
returns-in_ok-evict-in-Some-Evict-clause-done c =
    let threads = c.args.test.now.threads.items in
    let steps = steps_of c.args.self.now.places.items in
    let calls = c.args.self.now.recorded.calls in
    let program = c.in-Some-Some.program.now in
    let number = c.in-Some-Some.place.now.step in
    let look = rw c.deref.ensures.value at c.in-Some-Some.ensures.lookup in
    let is_thread = item-at threads c.args.thread program look.3.0 look.1 in
    let own = rw c.deref-3.ensures.value at c.in-Some-Evict.ensures.lookup in
    let is_step : slice_get program.steps.items number ≡ Some (actions.Evict c.in-Some-Evict.line) =
    item-at program.steps.items number c.in-Some-Evict.field-0.now own.3.0 own.1 ∙ ap Some c.in-Some-Evict.field-0-is in
    let stood = rw c.deref-2.ensures.value at c.in-Some-Some.ensures'.lookup in
    let stands : slice_get steps c.args.thread ≡ Some number =
    steps-at c.args.self.now.places.items c.args.thread c.in-Some-Some.place.now
    (item-at c.args.self.now.places.items c.args.thread c.in-Some-Some.place.now stood.3.0 stood.1) in
    rw (c.done.ensures.recorded, c.done.ensures.steps, c.in_ok-evict-in-Some-Evict.ensures.calls)
    (done-made threads steps calls
    (record {
      command = commands.Evict program.core c.in-Some-Evict.line;
      step = Some (record { thread = c.args.thread; step = number });
      done = true;
    })
    (record { thread = c.args.thread; step = number }) program (actions.Evict c.in-Some-Evict.line) refl refl refl
    is_thread is_step stands)

pub returns-in-Some-Settle-clause-done : goal.returns-in-Some-Settle-clause-done
returns-in-Some-Settle-clause-done c =
    let threads = c.args.test.now.threads.items in
    let steps = steps_of c.args.self.now.places.items in
    let calls = c.args.self.now.recorded.calls in
    let program = c.in-Some-Some.program.now in
    let number = c.in-Some-Some.place.now.step in
    let look = rw c.deref.ensures.value at c.in-Some-Some.ensures.lookup in
    let is_thread = item-at threads c.args.thread program look.3.0 look.1 in
    let own = rw c.deref-3.ensures.value at c.in-Some-Settle.ensures.lookup in
    let is_step : slice_get program.steps.items number ≡ Some actions.Settle =
    item-at program.steps.items number c.in-Some-Settle.field-0.now own.3.0 own.1
    ∙ ap Some c.in-Some-Settle.field-0-is in
    let stood = rw c.deref-2.ensures.value at c.in-Some-Some.ensures'.lookup in
    let stands : slice_get steps c.args.thread ≡ Some number =
    steps-at c.args.self.now.places.items c.args.thread c.in-Some-Some.place.now
    (item-at c.args.self.now.places.items c.args.thread c.in-Some-Some.place.now stood.3.0 stood.1) in
    rw (c.done-in-Some-Settle.ensures.recorded, c.done-in-Some-Settle.ensures.steps)
    (done-settled threads steps calls (record { thread = c.args.thread; step = number }) program
    is_thread is_step stands)
