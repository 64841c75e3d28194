use Rattle.std.proofs.Common.{◌≡◌, map, take}
use Rattle.lockup_c.specs.Made.{initial_of}
use Rattle.lockup_c.proofs.made.initial_values.Given as goal

abbrev pub invariant-loop-one : goal.invariant-loop-one
invariant-loop-one l = l.values ≡ map initial_of (take l.one-index l.fn.initial)
