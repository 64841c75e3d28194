use Rattle.std.proofs.Common.{arith, ◌<◌}
use Rattle.address_map.proofs.CoreSets.{without-joined}
use Rattle.address_map.proofs.core_set.CoreSet.without.Goals as goal

pub returns : goal.returns
returns c =
    let fits : c.self.inside.bits < 18446744073709551616 = omega arith in
    rw (c.one.view_is, c.only.ensures, ← c.self.view_is) (without-joined c.self.inside.bits c.args.core.0 fits)
