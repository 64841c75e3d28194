use Rattle.std.proofs.Common.{◌∙◌, ap, refl, subst, sym}
use Rattle.slice_core_spec.specs.Calls.{PartsView}
use Rattle.slice_core_spec.specs.View.{channels_at}
use Rattle.slice_core_exec.proofs.MadeLaws.{made-by, made-still, told-by}
use Rattle.slice_core_exec.proofs.NextLaws.{first-left, next-ends, next-more_taken, next-moves, rest-left}
use Rattle.slice_core_exec.proofs.TurnLaws.{first-more, first-moves}
use Rattle.slice_core_exec.proofs.parts.Parts.deliver_on.Goals as goal
use Rattle.slice_queues.specs.Line.{LineChannels}
use Rattle.slice_queues.specs.Waiting.{AreCores}

pub returns-in-Moved-clause-next : goal.returns-in-Moved-clause-next
returns-in-Moved-clause-next g c =
    let now = c.loop-channel.invariant.0 in
    let line = c.line-in-loop-channel.ensures
    ∙ ap (λ (p : PartsView). channels_at p.view c.args.local) (c.self-in-loop-channel.view_is ∙ now) in
    first-moves _ _ _ _ _ _ _ _ c.loop-channel.invariant.2 (first-left _ _ _ _ line c.in-Some.ensures.first) refl
    (told-by c.args.self.now _ _ c.args.local _ _ _ now c.with-one.ensures c.deliver_at.ensures) _ c.in-Moved.is

pub returns-in-Moved-clause-found : goal.returns-in-Moved-clause-found
returns-in-Moved-clause-found g c =
    let now = c.loop-channel.invariant.0 in
    let line = c.line-in-loop-channel.ensures
    ∙ ap (λ (p : PartsView). channels_at p.view c.args.local) (c.self-in-loop-channel.view_is ∙ now) in
    next-moves _ _ _ _ _ _ _ _ _ c.loop-channel.invariant.1 (first-left _ _ _ _ line c.in-Some.ensures.first) refl
    (told-by c.args.self.now _ _ c.args.local _ _ _ now c.with-one.ensures c.deliver_at.ensures) c.in-Moved.is

pub loop-channel-preserved : goal.loop-channel-preserved
loop-channel-preserved g c =
    let now = c.loop-channel.invariant.0 in
    let line = c.line-in-loop-channel.ensures
    ∙ ap (λ (p : PartsView). channels_at p.view c.args.local) (c.self-in-loop-channel.view_is ∙ now) in
    let first = first-left _ _ _ _ line c.in-Some.ensures.first in
    let rest = rest-left _ _ _ _ line c.in-Some.ensures.rest in
    let known = λ (l : LineChannels). AreCores l.cores c.next_left.new.left.acks.receivers in
    let told = told-by c.args.self.now _ _ c.args.local _ _ _ now c.with-one.ensures c.deliver_at.ensures in
    let made = made-by c.args.self.now _ _ c.args.local _ _ _ now c.with-one.ensures c.deliver_at.ensures in (
      made-still c.args.self.now _ _ c.in_default-one.not-Moved made,
      next-more_taken _ _ _ _ _ _ _ _ _ _ c.loop-channel.invariant.1 first rest refl told c.or-next.ensures,
      first-more _ _ _ _ _ _ _ _ c.loop-channel.invariant.2 first refl told _ _ c.in_default-one.not-Moved
          c.or-next.ensures rest,
      subst known line c.in-Some.ensures.known,
    )

pub returns-clause-found : goal.returns-clause-found
returns-clause-found g c =
    let line = c.line-in-loop-channel.ensures
    ∙ ap (λ (p : PartsView). channels_at p.view c.args.local)
    (c.self-in-loop-channel.view_is ∙ c.loop-channel.invariant.0) in
    next-ends _ _ _ _ _ c.loop-channel.invariant.1
    (first-left _ _ _ _ line (sym c.in_default.is ∙ c.next_left.ensures.first))
