use Rattle.std.proofs.Common.{map, take}
use Rattle.litmus_rounds.specs.Merge.{IsMergeOf}
use Rattle.litmus_rounds.proofs.merge.add_all.Given as goal

abbrev pub invariant-loop-next : goal.invariant-loop-next
invariant-loop-next l = IsMergeOf (map (λ filed. filed.part) (take l.next-index l.filed)) l.merged
