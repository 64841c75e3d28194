use Rattle.std.proofs.Common.{◌≡◌, ◌++◌, filter, take}
use Rattle.std.specs.Prelude.{◌==◌}
use Rattle.std.specs.List.{flat_map}
use Rattle.drain.specs.Owned.{AreOwnAt}
use Rattle.drain.specs.Receipts.{receipts_of_core}
use Rattle.drain.proofs.gathered.append_at.Given as goal

abbrev pub invariant-loop-core : goal.invariant-loop-core
invariant-loop-core g l =
    let c = g.M.SystemNames.setup in record {
      receipts :
          l.receipts.items
          ≡ l.initial.receipts.items
          ++ flat_map (receipts_of_core c) (filter (λ v. v.core.0 == l.number) (take l.core-index l.cores));
      own : AreOwnAt c (take l.core-index l.cores) l.number;
    }
