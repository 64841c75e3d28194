use Rattle.cache_array.proofs.Loans.{left_sound}
use Rattle.cache_array.proofs.array.CacheArray.value_mut.Goals as goal

pub invariant_of-self-lent : goal.invariant_of-self-lent
invariant_of-self-lent g c =
    λ value.
    left_sound (record { sets = c.self.inside.sets.items.items; policy = c.self.inside.policy })
    c.args.self.now c.args.line
    c.args.way value c.set_index-index.result c.index_mut-set.result.now c.self.view_is c.self.invariant
    c.set_index-index.ensures.index c.index_mut-set.ensures.value c.requires
