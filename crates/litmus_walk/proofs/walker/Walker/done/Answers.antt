use Rattle.std.proofs.Common.{◌+◌, ap}
use Rattle.litmus_walk.specs.declared.place.Place.{Place}
use Rattle.litmus_walk.proofs.DoneLemmas.{steps-set}
use Rattle.litmus_walk.proofs.walker.Walker.done.Goals as goal

pub returns-in-Some-clause-steps : goal.returns-in-Some-clause-steps
returns-in-Some-clause-steps c =
    steps-set c.args.self.now.places.items c.args.at.thread c.go_behind.new.self (c.args.at.step + 1)
    (ap (λ (p : Place). p.step) c.go_behind.ensures)
