use Rattle.std.proofs.Common.{[], ◌∙◌, ap, arith, subst, take_all}
use Rattle.std.specs.List.{sum_by}
use Rattle.std.proofs.lemmas.List.Sums.{sum_by_more}
use Rattle.litmus_test.specs.Table.{AreRowsOfBoth, RowView, TableView}
use Rattle.litmus_test.proofs.Joining.{joined_next, joined_none, table_of_both}
use Rattle.litmus_test.proofs.outcomes.table.Outcomes.append.Goals as goal

pub loop-row-init : goal.loop-row-init
loop-row-init c =
    let rows_are = ap (λ (table : TableView). table.rows) c.self.view_is in
    record {
      rows = subst (λ rows. AreRowsOfBoth c.args.from rows [] rows) rows_are
          (joined_none c.args.from _ c.self.invariant.ascending);
      rounds = omega arith;
    }

pub loop-row-preserved : goal.loop-row-preserved
loop-row-preserved c =
    let rows = c.deref-row-items.result.now in
    let i = c.loop-row.row-index in
    let row = c.row-item.result in
    let counts = rw (c.values.ensures, c.rounds.ensures, c.first.ensures) at c.in_ok-count.ensures.ok in
    record {
      rows = joined_next c.args.from c.args.self.now.rows rows _ i _ row c.loop-row-test.true c.row-item.is counts.rows
          c.loop-row.invariant.rows;
      rounds = omega (
        arith,
        counts.rounds,
        c.loop-row.invariant.rounds,
        sum_by_more (λ (row : RowView). row.rounds) rows i row c.loop-row-test.true,
        ap (λ (row : RowView). row.rounds) c.row-item.is,
      );
    }

-- all of the other's rows are counted
pub returns-clause-behind : goal.returns-clause-behind
returns-clause-behind c rounds more begins is others =
    let whole =
    take_all c.loop-row.row-index c.deref-row-items.result.now c.loop-row-test.false
    ∙ c.deref-row-items.ensures.value ∙ ap (λ (table : TableView). table.rows) c.other.view_is in
    table_of_both c.args.from rounds more c.args.self.now c.args.other.now c.loop-row.self begins is others c.requires
    (record {
      rows = subst (λ rows. AreRowsOfBoth c.args.from c.args.self.now.rows rows c.loop-row.self.rows) whole
          c.loop-row.invariant.rows;
      rounds = omega (
        arith,
        c.loop-row.invariant.rounds,
        ap (sum_by (λ (row : RowView). row.rounds)) whole,
        ap (sum_by (λ (row : RowView). row.rounds)) (ap (λ (table : TableView). table.rows) c.other.view_is),
        c.other.invariant.total,
        ap (λ (table : TableView). table.rounds) c.other.view_is,
      );
    })
