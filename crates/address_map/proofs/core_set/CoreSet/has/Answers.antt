use Rattle.std.proofs.Common.{◌<◌, arith, sym}
use Rattle.address_map.proofs.CoreSets.{has-shifted, tests-past}
use Rattle.address_map.proofs.core_set.CoreSet.has.Goals as goal

pub returns-then-core-lt64 : goal.returns-then-core-lt64
returns-then-core-lt64 c = rw (← c.self.view_is) (sym (has-shifted c.self.inside.bits c.args.core.0))

pub returns-else-core-lt64 : goal.returns-else-core-lt64
returns-else-core-lt64 c =
    let fits : c.self.inside.bits < 18446744073709551616 = omega arith in
    rw (← c.self.view_is) (tests-past c.self.inside.bits c.args.core.0 fits c.if-core-lt64.false)
