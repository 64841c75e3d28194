use Rattle.std.proofs.Common.{◌∙◌, None, Some, arith, refl, true}
use Rattle.litmus_text.specs.declared.command.Command.TheVariants as commands
use Rattle.litmus_walk.specs.Done.{steps_of}
use Rattle.litmus_walk.proofs.DoneLemmas.{done-moved, item-at}
use Rattle.litmus_walk.proofs.MoveLemmas.{hands-one}
use Rattle.litmus_walk.proofs.walker.Walker.hand.Goals as goal

pub returns-in-Some-2-clause-done : goal.returns-in-Some-2-clause-done
returns-in-Some-2-clause-done c =
    rw (c.set_waiting.ensures.recorded, c.set_waiting.ensures.steps, c.in_ok-given.ensures.made.calls)
    (done-moved c.args.test.now.threads.items (steps_of c.args.self.now.places.items) c.args.self.now.recorded.calls
    (record {
      command = commands.Hand c.in-Some.program.now.core c.slice_of-slice.result;
      step = None;
      done = true;
    }) refl)

pub returns-in_default-2-clause-done : goal.returns-in_default-2-clause-done
returns-in_default-2-clause-done c =
    rw c.in_ok-given.ensures.made.calls
    (done-moved c.args.test.now.threads.items (steps_of c.args.self.now.places.items) c.args.self.now.recorded.calls
    (record {
      command = commands.Hand c.in-Some.program.now.core c.slice_of-slice.result;
      step = None;
      done = true;
    }) refl)

pub returns-in-Some-2-clause-goes : goal.returns-in-Some-2-clause-goes
returns-in-Some-2-clause-goes c =
    let threads = c.args.test.now.threads.items in
    let reply = c.swap_remove-thread.result in
    let look = rw c.deref.ensures.value at c.in-Some.ensures.lookup in
    rw c.set_waiting.ensures.recorded
    (hands-one threads c.args.reply reply c.in-Some.program.now c.slice_of-slice.result (Some c.in-Some-2.given) _ _
    (item-at c.args.self.now.replies.items c.args.reply reply (omega (arith, c.if-reply-len.false, c.len.ensures))
    c.swap_remove-thread.ensures.value)
    (item-at threads reply.thread c.in-Some.program.now look.3.0 look.1)
    c.slice_of-slice.ensures.slice
    (rw c.in-Some-2.is at c.in_ok-given.ensures.answered)
    c.in_ok-given.ensures.made
    c.set_waiting.ensures.places
    (c.set_waiting.ensures.replies ∙ c.swap_remove-thread.ensures.items))

pub returns-in_default-2-clause-goes : goal.returns-in_default-2-clause-goes
returns-in_default-2-clause-goes c =
    let threads = c.args.test.now.threads.items in
    let reply = c.swap_remove-thread.result in
    let look = rw c.deref.ensures.value at c.in-Some.ensures.lookup in
    hands-one threads c.args.reply reply c.in-Some.program.now c.slice_of-slice.result None _ _
    (item-at c.args.self.now.replies.items c.args.reply reply (omega (arith, c.if-reply-len.false, c.len.ensures))
    c.swap_remove-thread.ensures.value)
    (item-at threads reply.thread c.in-Some.program.now look.3.0 look.1)
    c.slice_of-slice.ensures.slice
    (rw c.in_default-2.is at c.in_ok-given.ensures.answered)
    c.in_ok-given.ensures.made
    refl
    c.swap_remove-thread.ensures.items
