use Rattle.std.proofs.Common.{◌≡◌, ◌∙◌, ap, arith, get_or, length, refl, subst}
use Rattle.slice_core_spec.specs.Next.{IsNextAt}
use Rattle.slice_core_spec.specs.Calls.{PartsView}
use Rattle.slice_core_spec.specs.Ring.{next_at}
use Rattle.slice_core_exec.proofs.MadeLaws.{made-still}
use Rattle.slice_core_exec.proofs.NextLaws.{IsNextSoFar, line-there, ring-begins, ring-more_at}
use Rattle.slice_core_exec.proofs.TurnLaws.{turn-begins, turn-looked, turn-more, turn-moves}
use Rattle.slice_core_exec.proofs.parts.Parts.deliver_first.Goals as goal
use Rattle.slice_core_exec.specs.Found.{IsMade}
use Rattle.slice_answer.specs.declared.answer.Delivery.TheVariants as deliveries

pub loop-index-init : goal.loop-index-init
loop-index-init g c =
    let old = c.args.self.now in
    let begins = ring-begins old.view c.args.class c.self.inside.queues c.ring_len-index-end.ensures.ring
    (ap (λ (p : PartsView). p.view.channels) c.self.view_is) in (
      refl,
      subst (λ (p : PartsView). IsNextSoFar old.view c.args.class deliveries.Nothing p.ring) c.self.view_is begins,
      turn-begins _ _ _,
    )

pub returns-in-Moved-clause-next : goal.returns-in-Moved-clause-next
returns-in-Moved-clause-next g c =
    let now = c.loop-index.invariant.0 in
    let view = c.self-in-loop-index.view_is ∙ now in
    let rings = ap (λ (p : PartsView). length p.ring) c.self.view_is in
    let line = subst (λ (p : PartsView). c.ring_at-local.result.0 ≡ get_or p.ring c.loop-index.index 0) view
    c.ring_at-local.ensures.line in
    let is_next = λ (p : PartsView). c.deliver_on-made.result ≡ next_at p.view c.args.class c.ring_at-local.result in
    let next = subst is_next now c.deliver_on-made.ensures.next in
    turn-moves _ _ _ _ _ _ _ c.loop-index.invariant.2
    (omega (arith, c.loop-index-test.true, c.ring_len-index-end.ensures.len, rings)) line next _ c.in-Moved.is

pub returns-in-Moved-clause-looked : goal.returns-in-Moved-clause-looked
returns-in-Moved-clause-looked g c =
    let now = c.loop-index.invariant.0 in
    let view = c.self-in-loop-index.view_is ∙ now in
    let rings = ap (λ (p : PartsView). length p.ring) c.self.view_is in
    let line = subst (λ (p : PartsView). c.ring_at-local.result.0 ≡ get_or p.ring c.loop-index.index 0) view
    c.ring_at-local.ensures.line in
    let is_next = λ (p : PartsView). c.deliver_on-made.result ≡ next_at p.view c.args.class c.ring_at-local.result in
    let next = subst is_next now c.deliver_on-made.ensures.next in
    turn-looked _ _ _ _ _ _ _ c.loop-index.invariant.2
    (omega (arith, c.loop-index-test.true, c.ring_len-index-end.ensures.len, rings)) line next _ c.in-Moved.is

pub loop-index-preserved : goal.loop-index-preserved
loop-index-preserved g c =
    let old = c.args.self.now in
    let now = c.loop-index.invariant.0 in
    let view = c.self-in-loop-index.view_is ∙ now in
    let rings = ap (λ (p : PartsView). length p.ring) c.self.view_is in
    let line = subst (λ (p : PartsView). c.ring_at-local.result.0 ≡ get_or p.ring c.loop-index.index 0) view
    c.ring_at-local.ensures.line in
    let is_next = λ (p : PartsView). c.deliver_on-made.result ≡ next_at p.view c.args.class c.ring_at-local.result in
    let next = subst is_next now c.deliver_on-made.ensures.next in
    let is_found = λ (p : PartsView). IsNextAt p.view c.ring_at-local.result c.args.class c.deliver_on-made.result in
    let found = subst is_found now c.deliver_on-made.ensures.found in
    let made = subst (λ (p : PartsView). IsMade p c.deliver_on-made.result c.deliver_on-made.new.self) now
    c.deliver_on-made.ensures.made in
    let there = line-there old.view c.self-in-loop-index.inside.queues.channels.lines c.ring_at-local.result.0
    c.requires.delivers.shaped (ap (λ (p : PartsView). p.view.channels) view) c.ring_at-local.ensures.there in (
      made-still old _ _ c.in_default.not-Moved made,
      ring-more_at _ _ _ _ _ old.ring c.loop-index.index c.ring_at-local.result
          (omega (arith, c.loop-index-test.true, c.ring_len-index-end.ensures.len, rings)) line there
          c.loop-index.invariant.1 found c.or-next.ensures,
      turn-more _ _ _ _ _ _ _ c.loop-index.invariant.2
          (omega (arith, c.loop-index-test.true, c.ring_len-index-end.ensures.len, rings)) line next
          _ c.in_default.not-Moved c.or-next.ensures,
    )
