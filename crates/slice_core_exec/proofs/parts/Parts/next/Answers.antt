use Rattle.std.proofs.Common.{◌≡◌, ◌∙◌, ap, subst, sym}
use Rattle.slice_answer.specs.declared.answer.Delivery.{Delivery}
use Rattle.slice_core_spec.specs.Calls.{PartsView, IsNextPick}
use Rattle.slice_core_spec.specs.Ring.{pick_of}
use Rattle.slice_core_exec.proofs.NextAnswers.{found-pick, of-slice}
use Rattle.slice_core_exec.proofs.parts.Parts.next.Goals as goal
use Rattle.slice_core_exec.specs.Found.{IsLocated, IsOfSlice}
use Rattle.slice_queues.specs.declared.channel.Pick.{Pick}

pub pick_of-requires : goal.pick_of-requires
pick_of-requires g c =
    subst (λ (p : PartsView). IsOfSlice p.view.lines c.find_next.result) (sym c.self.view_is)
    (of-slice c.args.self.now.view c.args.class _ c.find_next.ensures.found)

pub returns-clause-next : goal.returns-clause-next
returns-clause-next g c =
    subst (λ (p : PartsView). c.pick_of.result ≡ pick_of p.view.lines c.find_next.result) c.self.view_is
    c.pick_of.ensures.pick
    ∙ ap (pick_of c.args.self.now.view.lines) c.find_next.ensures.next

pub returns-clause-found : goal.returns-clause-found
returns-clause-found g c =
    let v = c.args.self.now.view in
    let there = subst (λ (p : PartsView). IsLocated p.view.lines c.find_next.result) c.self.view_is
    c.pick_of.ensures.there in
    let pick_is = subst (λ (p : PartsView). c.pick_of.result ≡ pick_of p.view.lines c.find_next.result) c.self.view_is
    c.pick_of.ensures.pick in
    subst (λ (pick : Delivery Pick). IsNextPick v c.args.class pick) (sym pick_is)
    (found-pick v c.args.class c.find_next.result c.find_next.ensures.found there)
