use Rattle.std.proofs.Common.{◌<◌, arith}
use Rattle.address_map.proofs.Members.{ones-count}
use Rattle.address_map.proofs.core_set.CoreSet.count.Goals as goal

pub returns : goal.returns
returns c =
    let fits : c.self.inside.bits < 18446744073709551616 = omega arith in
    rw (← c.self.view_is) (ones-count c.self.inside.bits fits)
