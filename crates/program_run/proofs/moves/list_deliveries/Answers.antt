use Rattle.std.proofs.Common.{arith}
use Rattle.program_run.proofs.MoveLemmas.{next_listed}
use Rattle.program_run.proofs.moves.list_deliveries.Goals as goal

pub loop-slice-preserved : goal.loop-slice-preserved
loop-slice-preserved c = (
  next_listed _ _ _ c.args.machine.now.slices.items c.loop-slice.slice c.next-next.result
      (omega (arith, c.loop-slice-test.true, c.loop-slice.auto.slice-end)) c.loop-slice.invariant.0
      c.in_ok-push_delivery.ensures c.next-next.ensures.next,
  c.next-next.ensures.kept,
)
