use Rattle.std.proofs.Common.{◌≡◌, Option, Some, length, refl, slice_get, subst, sym}
use Rattle.std.specs.Prelude.{IfSome}
use Rattle.std.proofs.lemmas.Option.{slice_get_read}
use Rattle.slice_core_spec.specs.Calls.{PartsView, next_pick}
use Rattle.slice_queues.specs.declared.channel.Class.TheVariants as classes
use Rattle.program_run.specs.Front.{delivery_if}
use Rattle.program_run.specs.Run.{delivery_of}
use Rattle.program_run.proofs.kept.Kept.next.Goals as goal

pub next_delivery-next-requires : goal.next_delivery-next-requires
next_delivery-next-requires c =
    let slices = c.args.machine.now.slices.items in
    let state = c.index.result.now in
    let found : slice_get slices c.args.slice ≡ Some state =
    slice_get_read slices (length slices) c.args.slice state refl c.requires.slice c.index.ensures in
    rw c.idle_of-idle.ensures (c.requires.kept.idle c.args.slice state found)

pub returns-clause-next : goal.returns-clause-next
returns-clause-next c =
    let slices = c.args.machine.now.slices.items in
    let state = c.index.result.now in
    let found : slice_get slices c.args.slice ≡ Some state =
    slice_get_read slices (length slices) c.args.slice state refl c.requires.slice c.index.ensures in
    subst (λ (one : Option PartsView). IfSome one
    (λ state. delivery_of (next_pick state classes.Any) ≡ delivery_if c.next_delivery-next.result)) (sym found)
    c.next_delivery-next.ensures.next

pub returns-clause-kept : goal.returns-clause-kept
returns-clause-kept c =
    let slices = c.args.machine.now.slices.items in
    let state = c.index.result.now in
    let found : slice_get slices c.args.slice ≡ Some state =
    slice_get_read slices (length slices) c.args.slice state refl c.requires.slice c.index.ensures in record {
      decided = rw c.keep_idle.ensures.decided c.requires.kept.decided;
      idle = c.keep_idle.ensures.idle slices state found c.next_delivery-next.ensures.idle c.requires.kept.idle;
    }
