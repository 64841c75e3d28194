use Rattle.cache_array.proofs.Sets.{remove_leaves}
use Rattle.cache_array.proofs.array.CacheArray.remove.Goals as goal

pub invariant_of-self : goal.invariant_of-self
invariant_of-self g c =
    (remove_leaves (record { sets = c.self.inside.sets.items.items; policy = c.self.inside.policy }) c.args.self.now
    c.args.line c.set_index-index.result c.index_mut-set.result.now c.remove.new.self c.self.view_is c.self.invariant
    c.set_index-index.ensures.index c.index_mut-set.ensures.value c.remove.ensures.rest).sound

pub returns-clause-held : goal.returns-clause-held
returns-clause-held g c =
    (remove_leaves (record { sets = c.self.inside.sets.items.items; policy = c.self.inside.policy }) c.args.self.now
    c.args.line c.set_index-index.result c.index_mut-set.result.now c.remove.new.self c.self.view_is c.self.invariant
    c.set_index-index.ensures.index c.index_mut-set.ensures.value c.remove.ensures.rest).held

pub returns-clause-order : goal.returns-clause-order
returns-clause-order g c =
    (remove_leaves (record { sets = c.self.inside.sets.items.items; policy = c.self.inside.policy }) c.args.self.now
    c.args.line c.set_index-index.result c.index_mut-set.result.now c.remove.new.self c.self.view_is c.self.invariant
    c.set_index-index.ensures.index c.index_mut-set.ensures.value c.remove.ensures.rest).order
