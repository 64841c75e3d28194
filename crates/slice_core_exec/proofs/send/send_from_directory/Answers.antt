use Rattle.std.proofs.Common.{◌^◌, ◌<◌, ◌∙◌, arith}
use Rattle.slice_queues.specs.Line.{after_invalidating}
use Rattle.slice_queues.specs.Slice.{at_local}
use Rattle.slice_queues.proofs.LentLaws.{lent_again, read-lent}
use Rattle.slice_core_spec.proofs.RoomLaws.{both_true, takes_invalidations-there, TakesInvalidations-after_data}
use Rattle.slice_core_exec.proofs.send.send_from_directory.Goals as goal

pub invalidate-requires-clause-takes : goal.invalidate-requires-clause-takes
invalidate-requires-clause-takes c =
    let line = at_local c.args.queues.now.channels c.args.local.0 in
    let fits : c.in-DataAndInv.invalidated < 2 ^ 64 = omega (arith, c.bits.ensures, c.bits.type_inv) in
    let parts = both_true _ _ (rw c.in-DataAndInv.is at c.requires.room) in
    rw
    (read-lent c.args.queues.now c.send_data-in-DataAndInv.new.queues c.args.local _ c.requires.line
    c.send_data-in-DataAndInv.ensures)
    (TakesInvalidations-after_data line c.args.core _ _
    (takes_invalidations-there line c.in-DataAndInv.invalidated fits parts.1))

pub returns-in-DataAndInv : goal.returns-in-DataAndInv
returns-in-DataAndInv c =
    rw c.in-DataAndInv.is
    (c.invalidate.ensures
    ∙ lent_again c.args.queues.now c.send_data-in-DataAndInv.new.queues c.args.local _
    (λ l. after_invalidating l c.in-DataAndInv.invalidated c.args.core) c.requires.line
    c.send_data-in-DataAndInv.ensures)
