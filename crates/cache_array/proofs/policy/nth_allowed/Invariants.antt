-- Of the slots from here on, the one to find has `before` others before it.
use Rattle.std.proofs.Common.{◌≡◌, drop, slice_get}
use Rattle.cache_array.specs.Policy.{allowed_slots}
use Rattle.cache_array.proofs.Choices.{slots_from}
use Rattle.cache_array.proofs.policy.nth_allowed.Given as goal

abbrev pub invariant-loop-slot : goal.invariant-loop-slot
invariant-loop-slot l =
    slice_get (slots_from l.slot (drop l.slot l.allowed)) l.before ≡ slice_get (allowed_slots l.allowed) l.rank
