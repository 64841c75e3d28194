use Rattle.std.proofs.Common.{arith, ap, ◌∙◌, List}
use Rattle.std.specs.List.{sum_by}
use Rattle.std.proofs.lemmas.List.{take_all}
use Rattle.litmus_test.specs.Forbid.{is_forbidden}
use Rattle.litmus_test.specs.Table.{RowView, TableView}
use Rattle.litmus_test.proofs.Counting.{counted_by, counted_fits, counted_more, all_counted}
use Rattle.litmus_test.proofs.outcomes.table.Outcomes.forbidden.Goals as goal
use Rattle.litmus_test.proofs.outcomes.table.Outcomes.forbidden.Goals.{then-is_forbidden, else-is_forbidden}

-- at most all rounds are counted
pub overflow_add-count : goal.overflow_add-count
overflow_add-count c =
    let fits = counted_fits (is_forbidden c.args.test.now)
    c.deref-row-items.result.now c.loop-row.row-index c.row-item.result
    c.loop-row-test.true c.row-item.is in
    let total = ap (λ (rows : List RowView). sum_by (λ (row : RowView). row.rounds) rows)
    c.deref-row-items.ensures.value in
    omega (arith, fits, total)

pub loop-row-preserved : goal.loop-row-preserved
loop-row-preserved c =
    let more = counted_more (is_forbidden c.args.test.now)
    c.deref-row-items.result.now c.loop-row.row-index c.row-item.result
    c.loop-row-test.true c.row-item.is c.is_forbidden.result
    (c.is_forbidden.ensures ∙ ap (is_forbidden c.args.test.now) c.values.ensures) in
    elim c.if-is_forbidden.branch [
      | then-is_forbidden w ↦ omega (arith, rw w.if-is_forbidden.true at more)
      | else-is_forbidden w ↦ omega (arith, rw w.if-is_forbidden.false at more)
    ]

-- all rows were counted
pub returns : goal.returns
returns c rounds is =
    let sum_of = λ (rows : List RowView). sum_by (counted_by (is_forbidden c.args.test.now)) rows in
    c.loop-row.invariant
    ∙ ap sum_of (take_all c.loop-row.row-index c.deref-row-items.result.now c.loop-row-test.false)
    ∙ ap sum_of c.deref-row-items.ensures.value
    ∙ ap (λ (table : TableView). sum_of table.rows) c.self.view_is
    ∙ all_counted (is_forbidden c.args.test.now) rounds c.args.self.now.rows is.rows
