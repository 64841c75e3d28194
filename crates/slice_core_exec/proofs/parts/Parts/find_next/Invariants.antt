use Rattle.std.proofs.Common.{drop}
use Rattle.slice_core_exec.proofs.NextLaws.{IsNextSoFar}
use Rattle.slice_core_exec.proofs.TurnLaws.{IsTurnSoFar}
use Rattle.slice_core_exec.proofs.parts.Parts.find_next.Given as goal

abbrev pub invariant-loop-place : goal.invariant-loop-place
invariant-loop-place g l =
    IsNextSoFar l.self.view l.class l.next (drop l.place l.self-inside.queues.ring)
    × IsTurnSoFar l.self.view l.class l.self-inside.queues.ring l.next l.place
