use Rattle.std.proofs.Common.{[]}
use Rattle.drain.proofs.Appended.{range-appended}
use Rattle.drain.proofs.Owned.{own-at-more}
use Rattle.drain.specs.Receipts.{receipts_at}
use Rattle.drain.proofs.gathered.gather.Goals as goal

pub loop-number-preserved : goal.loop-number-preserved
loop-number-preserved g c =
    let setup = g.M.SystemNames.setup in
    let cores = c.args.cores.now in
    let n = c.loop-number.number in
    record {
      receipts = range-appended (receipts_at setup cores) [] _ _ n c.loop-number.invariant.receipts
          c.in_ok-append_at.ensures.receipts;
      own = own-at-more setup cores n c.loop-number.invariant.own c.in_ok-append_at.ensures.own;
    }
