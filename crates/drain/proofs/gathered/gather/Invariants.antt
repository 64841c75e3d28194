use Rattle.std.proofs.Common.{◌≡◌}
use Rattle.std.specs.List.{flat_map, range_with_len}
use Rattle.drain.specs.Owned.{AreOwnBelow}
use Rattle.drain.specs.Receipts.{receipts_at}
use Rattle.drain.proofs.gathered.gather.Given as goal

abbrev pub invariant-loop-number : goal.invariant-loop-number
invariant-loop-number g l =
    let c = g.M.SystemNames.setup in record {
      receipts : l.receipts.items ≡ flat_map (receipts_at c l.cores) (range_with_len 0 l.number);
      own : AreOwnBelow c l.cores l.number;
    }
