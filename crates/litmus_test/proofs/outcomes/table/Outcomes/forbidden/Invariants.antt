use Rattle.std.proofs.Common.{◌≡◌, take}
use Rattle.std.specs.List.{sum_by}
use Rattle.litmus_test.specs.Forbid.{is_forbidden}
use Rattle.litmus_test.proofs.Counting.{counted_by}
use Rattle.litmus_test.proofs.outcomes.table.Outcomes.forbidden.Given as goal

abbrev pub invariant-loop-row : goal.invariant-loop-row
invariant-loop-row l = l.count ≡ sum_by (counted_by (is_forbidden l.test)) (take l.row-index l.row-items)
