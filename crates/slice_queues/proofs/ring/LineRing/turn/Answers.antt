use Rattle.std.proofs.Common.{◌≡◌, ◌++◌, [], Some, arith, rules, subst, drop, take, length, if◌then◌else◌}
use Rattle.std.specs.Prelude.{slice_get}
use Rattle.slice_queues.specs.Ring.{LineOrder}
use Rattle.slice_queues.proofs.RingLaws.{turned-view, turned-buffer, turned-round, left-round, listed-below, listed-get}
use Rattle.slice_queues.proofs.ring.LineRing.turn.Goals as goal

pub invariant_of-self : goal.invariant_of-self
invariant_of-self c =
    let front : slice_get c.self.inside.order.items 0 ≡ Some c.in-Some.first = search rules in
    rw
    (turned-buffer _ _ _ c.in-Some.first _ _ front c.self.invariant c.pop_front.ensures.items c.push_back.ensures.items)
    (turned-round _ _ _ c.in-Some.first front c.self.invariant)

pub index_mut-requires : goal.index_mut-requires
index_mut-requires c =
    let front : slice_get c.self.inside.order.items 0 ≡ Some c.in-Some.first = search rules in
    omega (arith, listed-below _ _ _ c.in-Some.first c.self.invariant (listed-get _ 0 c.in-Some.first front))

pub invariant_of-self-else-stays-2 : goal.invariant_of-self-else-stays-2
invariant_of-self-else-stays-2 c =
    let front : slice_get c.self.inside.order.items 0 ≡ Some c.in-Some.first = search rules in
    rw c.pop_front.ensures.items (left-round _ _ _ c.in-Some.first front c.self.invariant)

pub returns-then-stays-2 : goal.returns-then-stays-2
returns-then-stays-2 c =
    let front : slice_get c.self.inside.order.items 0 ≡ Some c.in-Some.first = search rules in
    let after : LineOrder = record {
      order = c.push_back.new.self.items;
      lines = length c.self.inside.listed.items.items;
    } in
    let P : LineOrder → Type 0 = λ now.
    after ≡ record { order = drop 1 now.order ++ (if c.args.stays then take 1 now.order else []); lines = now.lines } in
    subst
    P
    c.self.view_is
    (turned-view
    c.self.inside.order.items (length c.self.inside.listed.items.items) c.self.inside.order.capacity c.in-Some.first
    c.push_back.new.self c.args.stays front
    (turned-buffer
    _ c.self.inside.listed.items.items _ c.in-Some.first _ _ front c.self.invariant c.pop_front.ensures.items
    c.push_back.ensures.items)
    c.if-stays-2.true)
