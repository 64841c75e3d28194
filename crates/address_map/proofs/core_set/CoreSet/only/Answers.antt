use Rattle.std.proofs.Common.{sym}
use Rattle.address_map.proofs.CoreSets.{only-shifted, only-past}
use Rattle.address_map.proofs.core_set.CoreSet.only.Goals as goal

pub returns-then-core-lt64 : goal.returns-then-core-lt64
returns-then-core-lt64 c = only-shifted c.args.core.0 c.if-core-lt64.true

pub returns-else-core-lt64 : goal.returns-else-core-lt64
returns-else-core-lt64 c = sym (only-past c.args.core.0 c.if-core-lt64.false)
