use Rattle.address_map.proofs.CoreSets.{with-joined}
use Rattle.address_map.proofs.core_set.CoreSet.with.Goals as goal

pub returns : goal.returns
returns c = rw (c.result.view_is, c.only.ensures, ← c.self.view_is) (with-joined c.self.inside.bits c.args.core.0)
