-- None of the values so far may go.
use Rattle.std.proofs.Common.{◌≡◌, Bool, false, take}
use Rattle.std.specs.Fn.{FnReturnsAt}
use Rattle.cache_array.specs.Victim.{Answers, some_may_go}
use Rattle.cache_array.proofs.set.some_allowed.Given as goal

abbrev pub invariant-loop-slot : goal.invariant-loop-slot
invariant-loop-slot g l =
    (test : g.row.V.Denot → Bool) → Answers (FnReturnsAt g.F.Fn l.allowed) test →
    some_may_go test (take l.slot-index l.slots) ≡ false
