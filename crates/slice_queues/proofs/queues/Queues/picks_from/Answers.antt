use Rattle.std.proofs.Common.{◌≡◌, ◌∙◌, ap, subst}
use Rattle.slice_queues.specs.Ring.{QueuesView}
use Rattle.slice_queues.specs.Slice.{local_of}
use Rattle.slice_queues.specs.Waiting.{picks_waiting, HasEachPickOnce}
use Rattle.slice_queues.proofs.PickLaws.{lines_round, picks_waiting-once}
use Rattle.slice_queues.proofs.queues.Queues.picks_from.Goals as goal

pub returns-clause-order : goal.returns-clause-order
returns-clause-order c =
    let now = c.args.self.now.channels in
    let lines : c.self.inside.lines ≡ now.lines = ap (λ v. v.channels.lines) c.self.view_is in
    let slice : c.slice-slice.result.0 ≡ now.slice =
    c.slice-slice.ensures.slice ∙ ap (λ v. v.channels.slice) c.self.view_is in
    let slices : c.slices-slices.result ≡ now.slices =
    c.slices-slices.ensures.slices ∙ ap (λ v. v.channels.slices) c.self.view_is in
    rw
    (c.new-3.ensures, c.new.ensures, c.new-2.ensures, c.len.ensures, slice, slices, c.place_of-place.ensures, lines)
    (lines_round now.slice now.slices (local_of now c.args.start) now.lines)

pub returns-clause-once : goal.returns-clause-once
returns-clause-once c =
    let P : QueuesView → Type 0 =
    λ queues. HasEachPickOnce queues.channels (picks_waiting queues.channels c.args.start) in
    let once : HasEachPickOnce c.args.self.now.channels (picks_waiting c.args.self.now.channels c.args.start) =
    subst P c.self.view_is (picks_waiting-once _ c.args.start c.self.invariant.machine.slice) in
    rw (returns-clause-order c) once
