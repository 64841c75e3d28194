use Rattle.std.proofs.Common.{◌≡◌, ◌-◌}
use Rattle.std.specs.List.{slice_get}
use Rattle.simulator.proofs.looks.nth_left.Given as goal

-- the one that is sought comes `counter` places earlier in what is left
abbrev pub invariant-loop : goal.invariant-loop
invariant-loop l = slice_get l.left (l.fn.nth - l.counter) ≡ slice_get l.fn.left l.fn.nth
