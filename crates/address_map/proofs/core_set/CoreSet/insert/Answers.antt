use Rattle.std.proofs.Common.{sym}
use Rattle.address_map.proofs.CoreSets.{only-shifted, with-joined, with-past}
use Rattle.address_map.proofs.core_set.CoreSet.insert.Goals as goal

pub returns-then-core-lt64 : goal.returns-then-core-lt64
returns-then-core-lt64 c =
    rw (only-shifted c.args.core.0 c.if-core-lt64.true, ← c.self.view_is)
    (with-joined c.self.inside.bits c.args.core.0)

pub returns-else-core-lt64 : goal.returns-else-core-lt64
returns-else-core-lt64 c = sym (with-past c.args.self.now c.args.core.0 c.if-core-lt64.false)
