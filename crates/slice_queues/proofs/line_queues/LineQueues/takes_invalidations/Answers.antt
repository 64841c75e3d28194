use Rattle.std.proofs.Common.{◌≡◌, ◌∙◌, ◌^◌, ◌<◌, [], true, false, refl, sym, arith, rules}
use Rattle.std.specs.List.{AllByRecursion}
use Rattle.address_map.specs.CoreSet.{members}
use Rattle.slice_queues.proofs.WaitingLaws.{AllByRecursion-members}
use Rattle.slice_queues.proofs.InvalidateLaws.{TakesForwarded, TakesInvalidations-from_members}
use Rattle.slice_queues.proofs.line_queues.LineQueues.takes_invalidations.Goals as goal

pub returns-then-not-has_room : goal.returns-then-not-has_room
returns-then-not-has_room c = (
  (λ t. absurd (search rules)),
  (λ takes.
      let all : AllByRecursion (TakesForwarded c.args.self.now) (members c.loop-core.left) =
      c.loop-core.invariant.1
      (AllByRecursion-members (TakesForwarded c.args.self.now) _
      (λ core there. takes (record { 0 = core }) there)) in
      let here : TakesForwarded c.args.self.now c.in-Some.core.0 = (rw c.in-Some.ensures.first at all).0 in
      let room : c.has_room.result ≡ true = c.has_room.ensures.1 here in
      let clash : false ≡ true = sym c.if-not-has_room.true ∙ room in
      cc),
)

pub returns : goal.returns
returns c =
    let none : members c.loop-core.left ≡ [] = (c.pop_first.ensures.none c.in_default.is).0 in
    let fits : c.args.cores < 2 ^ 64 = omega (arith, c.bits.ensures, c.bits.type_inv) in
    let all : AllByRecursion (TakesForwarded c.args.self.now) (members c.args.cores) =
    c.loop-core.invariant.0 (rw none tt) in
    ((λ t. TakesInvalidations-from_members c.args.self.now c.args.cores fits all), (λ takes. refl))
