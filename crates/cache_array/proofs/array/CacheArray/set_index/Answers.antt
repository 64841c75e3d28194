use Rattle.std.proofs.Common.{◌∙◌}
use Rattle.cache_array.proofs.Sets.{set_masked}
use Rattle.cache_array.proofs.array.CacheArray.set_index.Goals as goal

pub returns-clause-index : goal.returns-clause-index
returns-clause-index g c =
    set_masked (record { sets = c.self.inside.sets.items.items; policy = c.self.inside.policy })
    c.args.self.now c.args.line
    c.len.result c.self.view_is c.self.invariant (c.len.ensures ∙ c.self.inside.sets.items.ok.0)
