use Rattle.std.proofs.Common.{sym, ◌∙◌}
use Rattle.cache_array.proofs.Slots.{popped_set}
use Rattle.cache_array.proofs.set.Set.remove.Goals as goal

pub returns : goal.returns
returns g c =
    let both =
    popped_set c.args.line (record { slots = c.self.inside.slots.items; ways = c.self.inside.ways }) c.args.self.now
    c.deref_mut.result.now c.move_to_end.new.slots c.pop.new.self.items c.in-Some-pop.slot c.pop.result
    c.self.inside.slots.len c.in-Some.way c.self.inside.slots.ok.0 c.self.view_is (sym c.find.ensures ∙ c.in-Some.is)
    c.deref_mut.ensures.value c.move_to_end.auto.slots c.move_to_end.ensures c.pop.ensures.items c.in-Some-pop.is in
    record { value = both.1; rest = both.0 }
