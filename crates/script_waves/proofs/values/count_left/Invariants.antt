use Rattle.std.proofs.Common.{◌≡◌, ◌+◌, length}
use Rattle.script_waves.proofs.values.count_left.Given as goal

-- those that were counted, and those that are left
abbrev pub invariant-loop-count : goal.invariant-loop-count
invariant-loop-count l = length l.fn.left ≡ l.count + length l.left
