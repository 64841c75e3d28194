use Rattle.std.proofs.Common.{arith, ◌≡◌, ◌<◌, sym, ◌∙◌}
use Rattle.address_map.proofs.Members.{members-zero, members-lowest, lowest-there, lowest-cleared}
use Rattle.address_map.proofs.core_set.CoreSet.pop_first.Goals as goal

pub returns-then-self-eq0-clause-none : goal.returns-then-self-eq0-clause-none
returns-then-self-eq0-clause-none c =
    let empty : c.args.self.now ≡ 0 = sym c.self.view_is ∙ c.if-self-eq0.true in
    λ _. (rw empty members-zero, rw empty members-zero)

pub returns-clause-first : goal.returns-clause-first
returns-clause-first c =
    let fits : c.self.inside.bits < 18446744073709551616 = omega arith in
    let set = c.self.inside.bits in
    rw (lowest-cleared set (omega arith) fits, ← c.self.view_is) (members-lowest set (omega arith) fits)

pub returns-clause-there : goal.returns-clause-there
returns-clause-there c =
    let fits : c.self.inside.bits < 18446744073709551616 = omega arith in
    rw (← c.self.view_is) (lowest-there c.self.inside.bits (omega arith) fits)

pub returns-clause-removed : goal.returns-clause-removed
returns-clause-removed c =
    let fits : c.self.inside.bits < 18446744073709551616 = omega arith in
    rw (← c.self.view_is) (lowest-cleared c.self.inside.bits (omega arith) fits)
