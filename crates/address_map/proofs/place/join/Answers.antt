use Rattle.address_map.proofs.Places.{place_of-word_at}
use Rattle.address_map.proofs.place.join.Goals as goal

pub returns-clause-split : goal.returns-clause-split
returns-clause-split c =
    rw c.slices.ensures.slices (place_of-word_at c.args.config.now c.args.place c.slices.ensures.allowed c.requires)
