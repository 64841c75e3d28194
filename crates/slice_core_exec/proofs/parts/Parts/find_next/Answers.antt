use Rattle.std.proofs.Common.{◌∙◌, ap, arith}
use Rattle.slice_core_spec.specs.Calls.{PartsView}
use Rattle.slice_core_spec.specs.Ring.{next_in}
use Rattle.slice_core_exec.proofs.NextLaws.{line-there, ring-begins, ring-more_at, ring-moves}
use Rattle.slice_core_exec.proofs.TurnLaws.{turn-begins, turn-more, turn-moves}
use Rattle.slice_core_exec.proofs.parts.Parts.find_next.Goals as goal

pub loop-place-init : goal.loop-place-init
loop-place-init g c = (
  ring-begins _ _ c.self.inside.queues c.ring_len-place-end.ensures.ring
      (ap (λ (p : PartsView). p.view.channels) c.self.view_is),
  turn-begins _ _ _,
)

pub returns-in-Moved-clause-found : goal.returns-in-Moved-clause-found
returns-in-Moved-clause-found g c =
    let same = ap (λ (p : PartsView). p.view.channels) c.self.view_is in
    ring-moves c.args.self.now.view _ _ c.ring_at.result _
    (line-there c.args.self.now.view c.self.inside.queues.channels.lines c.ring_at.result.0 c.requires.shaped same
    c.ring_at.ensures.there)
    c.in-Moved.is c.next_at-found.ensures.found

pub returns-in-Moved-clause-next : goal.returns-in-Moved-clause-next
returns-in-Moved-clause-next g c =
    turn-moves _ _ _ _ _ _ _ c.loop-place.invariant.1
    (omega (arith, c.loop-place-test.true, c.ring_len-place-end.ensures.len)) c.ring_at.ensures.line
    c.next_at-found.ensures.next _ c.in-Moved.is
    ∙ ap (λ (p : PartsView). next_in c.args.self.now.view c.args.class p.ring) c.self.view_is

pub loop-place-preserved : goal.loop-place-preserved
loop-place-preserved g c =
    let same = ap (λ (p : PartsView). p.view.channels) c.self.view_is in (
      ring-more_at _ _ _ _ _ c.self.inside.queues.ring c.loop-place.place c.ring_at.result
          (omega (arith, c.loop-place-test.true, c.ring_len-place-end.ensures.len)) c.ring_at.ensures.line
          (line-there c.args.self.now.view c.self.inside.queues.channels.lines c.ring_at.result.0 c.requires.shaped same
          c.ring_at.ensures.there)
          c.loop-place.invariant.0 c.next_at-found.ensures.found c.or-next.ensures,
      turn-more _ _ _ _ _ _ _ c.loop-place.invariant.1
          (omega (arith, c.loop-place-test.true, c.ring_len-place-end.ensures.len)) c.ring_at.ensures.line
          c.next_at-found.ensures.next _ c.in_default.not-Moved c.or-next.ensures,
    )
