use Rattle.cache_array.proofs.Loans.{value_there}
use Rattle.cache_array.proofs.set.Set.value.Goals as goal

pub returns : goal.returns
returns g c =
    value_there (record { slots = c.self.inside.slots.items; ways = c.self.inside.ways }) c.args.self.now
    c.args.line c.args.way c.index.result.now c.self.view_is c.requires c.index.ensures
