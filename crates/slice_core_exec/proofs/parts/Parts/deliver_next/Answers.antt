use Rattle.std.proofs.Common.{◌≡◌, ◌∙◌, ap, arith, length, subst, sym}
use Rattle.slice_core_spec.proofs.TurnLaws.{comes-nearer, extends-done, longer, looked-within}
use Rattle.slice_answer.specs.declared.answer.Delivery.{Delivery}
use Rattle.slice_core_spec.specs.Calls.{PartsView, IsNextPick}
use Rattle.slice_core_spec.specs.Ring.{pick_of, ring_after_turn}
use Rattle.slice_core_exec.proofs.MadeLaws.{made-done}
use Rattle.slice_core_exec.proofs.NextAnswers.{found-pick, of-slice}
use Rattle.slice_core_exec.proofs.NextLaws.{mover-stands}
use Rattle.slice_core_exec.proofs.parts.Parts.deliver_next.Goals as goal
use Rattle.slice_core_exec.specs.Found.{IsLocated, IsOfSlice}
use Rattle.slice_queues.specs.declared.channel.Pick.{Pick}

pub pick_of-answer-requires : goal.pick_of-answer-requires
pick_of-answer-requires g c =
    subst (λ (p : PartsView). IsOfSlice p.view.lines c.deliver_first-next.result.0) (sym c.self.view_is)
    (of-slice c.args.self.now.view c.args.class _ c.deliver_first-next.ensures.found)

pub rotate-requires : goal.rotate-requires
rotate-requires g c =
    let old = c.args.self.now in
    let next = c.deliver_first-next.result.0 in
    let answer = c.pick_of-answer.result in
    let pick_is = subst (λ (p : PartsView). answer ≡ pick_of p.view.lines next) c.self.view_is
    c.pick_of-answer.ensures.pick in
    let there = subst (λ (p : PartsView). IsLocated p.view.lines next) c.self.view_is
    c.pick_of-answer.ensures.there in
    let done = made-done old _ next answer there pick_is c.deliver_first-next.ensures.made in
    let looked = c.deliver_first-next.ensures.looked in
    let few = looked-within old.view c.args.class old.ring in
    let now = ap (λ (p : PartsView). length p.ring) c.self-2.view_is in
    let more = longer old.ring _ (extends-done old c.deliver_first-next.new.self _ done) in
    omega (arith, looked, few, now, more)

pub returns-clause-step : goal.returns-clause-step
returns-clause-step g c =
    let old = c.args.self.now in
    let next = c.deliver_first-next.result.0 in
    let answer = c.pick_of-answer.result in
    let pick_is = subst (λ (p : PartsView). answer ≡ pick_of p.view.lines next) c.self.view_is
    c.pick_of-answer.ensures.pick in
    let there = subst (λ (p : PartsView). IsLocated p.view.lines next) c.self.view_is
    c.pick_of-answer.ensures.there in
    let made = made-done old _ next answer there pick_is c.deliver_first-next.ensures.made in
    record {
      next = pick_is ∙ ap (pick_of old.view.lines) c.deliver_first-next.ensures.next;
      found =
          subst (λ (pick : Delivery Pick). IsNextPick old.view c.args.class pick) (sym pick_is)
          (found-pick old.view c.args.class next c.deliver_first-next.ensures.found there);
      done = c.deliver_first-next.new.self;
      made = made;
      turns =
          rw (c.rotate.ensures.ring, c.rotate.ensures.channels)
          (ap (λ (p : PartsView). record p { ring = ring_after_turn p.view c.deliver_first-next.result.1 p.ring })
          c.self-2.view_is)
          ∙ ap (λ n. record c.deliver_first-next.new.self {
            ring = ring_after_turn c.deliver_first-next.new.self.view n c.deliver_first-next.new.self.ring;
          }) c.deliver_first-next.ensures.looked;
    }

pub returns-clause-turn : goal.returns-clause-turn
returns-clause-turn g c =
    let old = c.args.self.now in
    record {
      stands = λ local there moves. mover-stands old c.args.class local c.deliver_first-next.ensures.listed moves;
      nearer = λ local place stands moves.
          comes-nearer old c.args.class _ _ (returns-clause-step g c) local place stands moves;
    }
