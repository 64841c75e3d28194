use Rattle.std.proofs.Common.{ap}
use Rattle.litmus_walk.specs.declared.place.Place.{Place}
use Rattle.litmus_walk.proofs.DoneLemmas.{steps-kept}
use Rattle.litmus_walk.proofs.walker.Walker.set_waiting.Goals as goal

pub returns-in-Some-clause-steps : goal.returns-in-Some-clause-steps
returns-in-Some-clause-steps c =
    steps-kept c.args.self.now.places.items c.args.thread c.in-Some.place.now
    c.set_waiting.new.self c.in-Some.ensures.value
    (ap (λ (p : Place). p.step) c.set_waiting.ensures)
