use Rattle.std.proofs.Common.{ap, ◌∙◌}
use Rattle.slice_core_spec.specs.Calls.{PartsView}
use Rattle.slice_core_spec.specs.View.{channels_at}
use Rattle.slice_core_exec.proofs.NextLaws.{next-begins_at, next-more_taken, next-moves}
use Rattle.slice_core_exec.proofs.TurnLaws.{first-begins, first-more, first-moves}
use Rattle.slice_core_exec.proofs.parts.Parts.next_at.Goals as goal

pub loop-next-init : goal.loop-next-init
loop-next-init g c =
    let line = c.line.ensures ∙ ap (λ (p : PartsView). channels_at p.view c.args.local) c.self.view_is in (
      next-begins_at _ _ _ _ _ line c.waiting_in-waiting.ensures.once,
      first-begins _ _ _ _ _ line c.waiting_in-waiting.ensures.order,
    )

pub returns-in-Moved-clause-found : goal.returns-in-Moved-clause-found
returns-in-Moved-clause-found g c =
    next-moves _ _ _ _ _ _ _ _ _ c.loop-next.invariant.0 c.in-Some.ensures.first c.plan.ensures.planned
    c.with-planned.ensures c.in-Moved.is

pub returns-in-Moved-clause-next : goal.returns-in-Moved-clause-next
returns-in-Moved-clause-next g c =
    first-moves _ _ _ _ _ _ _ _ c.loop-next.invariant.1 c.in-Some.ensures.first c.plan.ensures.planned
    c.with-planned.ensures _ c.in-Moved.is

pub loop-next-preserved : goal.loop-next-preserved
loop-next-preserved g c = (
  next-more_taken _ _ _ _ _ _ _ _ _ _ c.loop-next.invariant.0 c.in-Some.ensures.first c.in-Some.ensures.rest
      c.plan.ensures.planned
      c.with-planned.ensures c.or-next.ensures,
  first-more _ _ _ _ _ _ _ _ c.loop-next.invariant.1 c.in-Some.ensures.first c.plan.ensures.planned
      c.with-planned.ensures _ _ c.in_default-planned.not-Moved c.or-next.ensures c.in-Some.ensures.rest,
)
