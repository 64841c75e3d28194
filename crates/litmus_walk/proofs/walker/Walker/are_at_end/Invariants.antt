use Rattle.std.proofs.Common.{◌≡◌, ◌<◌, ℕ, Some, length, slice_get}
use Rattle.litmus_test.specs.declared.test.Thread.{Thread}
use Rattle.litmus_walk.specs.Done.{steps_of}
use Rattle.litmus_walk.proofs.walker.Walker.are_at_end.Given as goal

abbrev pub invariant-loop-number : goal.invariant-loop-number
invariant-loop-number l =
    (number : ℕ) (thread : Thread) → number < l.number → slice_get l.test.threads.items number ≡ Some thread
    → slice_get (steps_of l.self.places.items) number ≡ Some (length thread.steps.items)
