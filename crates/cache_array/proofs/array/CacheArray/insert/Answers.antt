use Rattle.cache_array.proofs.Sets.{insert_leaves}
use Rattle.cache_array.proofs.array.CacheArray.insert.Goals as goal

pub invariant_of-self : goal.invariant_of-self
invariant_of-self g c =
    (insert_leaves (record { sets = c.self.inside.sets.items.items; policy = c.self.inside.policy }) c.args.self.now
    c.args.line c.args.value c.set_index-index.result c.index_mut-set.result.now c.insert.new.self c.self.view_is
    c.self.invariant c.set_index-index.ensures.index c.index_mut-set.ensures.value c.insert.ensures c.requires.absent
    c.requires.room).sound

pub returns-clause-held : goal.returns-clause-held
returns-clause-held g c =
    (insert_leaves (record { sets = c.self.inside.sets.items.items; policy = c.self.inside.policy }) c.args.self.now
    c.args.line c.args.value c.set_index-index.result c.index_mut-set.result.now c.insert.new.self c.self.view_is
    c.self.invariant c.set_index-index.ensures.index c.index_mut-set.ensures.value c.insert.ensures c.requires.absent
    c.requires.room).held

pub returns-clause-order : goal.returns-clause-order
returns-clause-order g c =
    (insert_leaves (record { sets = c.self.inside.sets.items.items; policy = c.self.inside.policy }) c.args.self.now
    c.args.line c.args.value c.set_index-index.result c.index_mut-set.result.now c.insert.new.self c.self.view_is
    c.self.invariant c.set_index-index.ensures.index c.index_mut-set.ensures.value c.insert.ensures c.requires.absent
    c.requires.room).order
