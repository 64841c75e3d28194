use Rattle.cache_array.proofs.Loans.{found_read}
use Rattle.cache_array.proofs.array.CacheArray.find.Goals as goal

pub returns-clause-held : goal.returns-clause-held
returns-clause-held g c =
    found_read (record { sets = c.self.inside.sets.items.items; policy = c.self.inside.policy })
    c.args.self.now c.args.line
    c.set_index.result c.index.result.now c.find.result c.self.view_is c.self.invariant c.set_index.ensures.index
    c.index.ensures c.find.ensures
