use Rattle.std.proofs.Common.{length}
use Rattle.slice_core_spec.specs.Ring.{waiting_in}
use Rattle.slice_core_exec.proofs.NextLaws.{IsNextOf}
use Rattle.slice_core_exec.proofs.TurnLaws.{IsFirstSoFar}
use Rattle.slice_core_exec.proofs.parts.Parts.next_at.Given as goal

abbrev pub invariant-loop-next : goal.invariant-loop-next
invariant-loop-next g l =
    IsNextOf l.self.view l.local l.fn.class l.next l.waiting
    × IsFirstSoFar l.self.view l.local (waiting_in l.self.view l.fn.class l.local) l.next l.waiting

abbrev pub decreases-loop-next : goal.decreases-loop-next
decreases-loop-next g l = length l.waiting
