use Rattle.std.proofs.Common.{rules}
use Rattle.std.proofs.lemmas.Bool.{leb-false, leb-true}
use Rattle.std.proofs.lemmas.List.Sorted.{IsPartitionPoint-from_clause, IsPartitionedBy-leb}
use Rattle.std.proofs.Math.Dec.{leb}
use Rattle.std.specs.List.Sorted.{IsPartitionPoint}
use Rattle.std.proofs.Common.{◌≡◌, true, false}
use Rattle.receipt_ledger.specs.declared.account.Streak.{Streak}
use Rattle.receipt_ledger.proofs.account.begun.Goals as goal

-- the place where the streaks that begin no later end
point : (c : goal.After-partition_point)
    → IsPartitionPoint (λ (s : Streak). leb s.first c.args.seq ≡ true) (λ (s : Streak). leb s.first c.args.seq ≡ false)
    c.args.streaks.now c.partition_point.result
point c =
    IsPartitionPoint-from_clause (λ (s : Streak). leb s.first c.args.seq) c.args.streaks.now c.partition_point.result
    c.partition_point.ensures.partitioned
    (IsPartitionedBy-leb (λ (s : Streak). s.first) c.args.streaks.now c.args.seq c.requires)
    (λ a r f' called. search rules)

pub returns-clause-begun : goal.returns-clause-begun
returns-clause-begun c k d low high = leb-true _ _ ((point c).0 k d low high)

pub returns-clause-later : goal.returns-clause-later
returns-clause-later c k d low high = leb-false _ _ ((point c).1 k d low high)
