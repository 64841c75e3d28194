use Rattle.std.proofs.Common.{◌≡◌, drop}
use Rattle.slice_core_exec.proofs.NextLaws.{IsNextSoFar}
use Rattle.slice_core_exec.proofs.TurnLaws.{IsTurnSoFar}
use Rattle.slice_core_exec.proofs.parts.Parts.deliver_first.Given as goal

abbrev pub invariant-loop-index : goal.invariant-loop-index
invariant-loop-index g l =
    (l.self ≡ l.fn.self)
    × IsNextSoFar l.fn.self.view l.fn.class l.next (drop l.index l.fn.self.ring)
    × IsTurnSoFar l.fn.self.view l.fn.class l.fn.self.ring l.next l.index
