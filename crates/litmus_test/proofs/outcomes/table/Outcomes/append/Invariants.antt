use Rattle.std.proofs.Common.{◌≡◌, ◌+◌, take}
use Rattle.std.specs.List.{sum_by}
use Rattle.litmus_test.specs.Table.{AreRowsOfBoth, RowView}
use Rattle.litmus_test.proofs.outcomes.table.Outcomes.append.Given as goal

-- the other's rows so far are counted
abbrev pub invariant-loop-row : goal.invariant-loop-row
invariant-loop-row l = record {
  rows : AreRowsOfBoth l.fn.from l.fn.self.rows (take l.row-index l.row-items) l.self.rows;
  rounds : l.self.rounds ≡ l.fn.self.rounds + sum_by (λ (row : RowView). row.rounds) (take l.row-index l.row-items);
}
