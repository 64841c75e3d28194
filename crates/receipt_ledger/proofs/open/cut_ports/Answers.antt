use Rattle.std.proofs.Common.{◌∙◌, arith}
use Rattle.address_map.specs.declared.address.CoreId.{CoreId}
use Rattle.receipt_ledger.proofs.Ports.{ports-more}
use Rattle.receipt_ledger.proofs.open.cut_ports.Goals as goal

pub loop-core-preserved : goal.loop-core-preserved
loop-core-preserved g c =
    let so_far = c.loop-core.invariant in
    let core : CoreId = record { 0 = c.loop-core.core } in (
      let split = c.split_part-part.ensures.parts in
          let parts = so_far.0 in
          omega (arith, split, parts),
      c.split_part-part.ensures.held ∙ so_far.1,
      rw c.in_ok-push.ensures.items (ports-more c.args.slice core _ _ so_far.2 c.fresh.ensures),
    )
