use Rattle.slice_core_spec.proofs.RoomLaws.{same_test, takes-from, takes-there}
use Rattle.slice_core_exec.proofs.room.takes.Goals as goal

pub returns : goal.returns
returns c =
    same_test _ _
    (λ t. let there = c.has_room.ensures.0 t in takes-from c.args.line.now c.args.channel there.0 there.1)
    (λ t. c.has_room.ensures.1 (takes-there c.args.line.now c.args.channel t))
