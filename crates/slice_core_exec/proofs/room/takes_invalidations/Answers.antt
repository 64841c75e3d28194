use Rattle.std.proofs.Common.{◌^◌, ◌<◌, arith}
use Rattle.slice_core_spec.proofs.RoomLaws.{same_test, takes_invalidations-from, takes_invalidations-there}
use Rattle.slice_core_exec.proofs.room.takes_invalidations.Goals as goal

pub returns : goal.returns
returns c =
    let fits : c.args.cores < 2 ^ 64 = omega (arith, c.bits.ensures, c.bits.type_inv) in
    same_test _ _
    (λ t. takes_invalidations-from c.args.line.now c.args.cores (c.takes_invalidations.ensures.0 t))
    (λ t. c.takes_invalidations.ensures.1 (takes_invalidations-there c.args.line.now c.args.cores fits t))
