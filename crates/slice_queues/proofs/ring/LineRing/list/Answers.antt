use Rattle.std.proofs.Common.{◌≡◌, ◌<◌, ◌∙◌, ◌++◌, [], ◌∷◌, ap, sym, arith, false, true, length, get_or, refl, subst}
use Rattle.std.proofs.Common.{rules}
use Rattle.std.proofs.Math.ListN.{set}
use Rattle.slice_queues.specs.Ring.{LineOrder, IsRound, is_listed, with_listed}
use Rattle.slice_queues.proofs.RingLaws.{IsRound-push, pushed-items, listed-view}
use Rattle.slice_queues.proofs.ring.LineRing.list.Goals as goal

pub invariant_of-self : goal.invariant_of-self
invariant_of-self c =
    let there : c.args.local.0 < length c.self.inside.listed.items.items =
    omega (arith, ap (λ r. r.lines) c.self.view_is, c.requires) in
    let apart : get_or c.self.inside.listed.items.items c.args.local.0 false ≡ false = search rules in
    let round : IsRound (c.self.inside.order.items ++ c.args.local.0 ∷ [])
    (set c.self.inside.listed.items.items c.args.local.0 true) c.self.inside.order.capacity =
    IsRound-push _ _ _ c.args.local.0 c.self.invariant there apart in
    rw (pushed-items c.self.inside.order.items _ c.args.local.0 c.self.inside.order _ refl round
    c.push_back.ensures.items) round

pub returns-then-not-index : goal.returns-then-not-index
returns-then-not-index c =
    let there : c.args.local.0 < length c.self.inside.listed.items.items =
    omega (arith, ap (λ r. r.lines) c.self.view_is, c.requires) in
    let apart : get_or c.self.inside.listed.items.items c.args.local.0 false ≡ false = search rules in
    let round : IsRound (c.self.inside.order.items ++ c.args.local.0 ∷ [])
    (set c.self.inside.listed.items.items c.args.local.0 true) c.self.inside.order.capacity =
    IsRound-push _ _ _ c.args.local.0 c.self.invariant there apart in
    let apart_too : is_listed c.self.inside.order.items c.args.local.0 ≡ false =
    sym (c.self.invariant.flags c.args.local.0) ∙ apart in
    let after : LineOrder =
    record {
      order = c.push_back.new.self.items;
      lines =
          length (set c.self.inside.listed.items.items c.args.local.0 true);
    } in
    let P : LineOrder → Type 0 =
    λ now. after ≡ record { order = with_listed now.order c.args.local.0; lines = now.lines } in
    subst
    P
    c.self.view_is
    (listed-view
    c.self.inside.order.items c.self.inside.listed.items.items c.args.local.0 c.self.inside.order.capacity
    c.push_back.new.self
    (pushed-items c.self.inside.order.items _ c.args.local.0 c.self.inside.order _ refl round c.push_back.ensures.items)
    apart_too)
