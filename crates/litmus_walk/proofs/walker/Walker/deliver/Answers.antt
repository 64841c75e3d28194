use Rattle.std.proofs.Common.{None, refl, true}
use Rattle.litmus_text.specs.declared.command.Command.TheVariants as commands
use Rattle.litmus_walk.specs.Done.{steps_of}
use Rattle.litmus_walk.proofs.DoneLemmas.{done-moved}
use Rattle.litmus_walk.proofs.walker.Walker.deliver.Goals as goal

pub returns-clause-done : goal.returns-clause-done
returns-clause-done c =
    rw c.in_ok-deliver.ensures.calls
    (done-moved c.args.test.now.threads.items (steps_of c.args.self.now.places.items) c.args.self.now.recorded.calls
    (record { command = commands.Deliver c.args.pick; step = None; done = true }) refl)
