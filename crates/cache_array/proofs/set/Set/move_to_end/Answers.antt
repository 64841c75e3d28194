use Rattle.cache_array.proofs.Slots.{moved_set}
use Rattle.cache_array.proofs.set.Set.move_to_end.Goals as goal

pub returns : goal.returns
returns g c =
    moved_set c.args.line (record { slots = c.self.inside.slots.items; ways = c.self.inside.ways })
    c.args.self.now c.deref_mut.result.now c.move_to_end.new.slots c.self.inside.slots.len c.args.way
    c.self.inside.slots.ok.0 c.self.view_is c.deref_mut.ensures.value c.move_to_end.auto.slots c.requires
    c.move_to_end.ensures
