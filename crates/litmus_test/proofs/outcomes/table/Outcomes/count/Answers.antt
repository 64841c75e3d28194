use Rattle.std.proofs.Common.{arith, ap, inl, inr, ◌⊎◌, ◌≡◌, ◌∙◌, set, subst, sym}
use Rattle.litmus_test.specs.Table.{CountsAgain, CountsFirst, IsGapFor, IsPlaceOf, RowView, TableView}
use Rattle.litmus_test.specs.declared.outcomes.table.Outcomes.TheInside.{Inside}
use Rattle.litmus_test.proofs.Between.{gap_lacks, grows}
use Rattle.litmus_test.proofs.outcomes.table.Outcomes.count.Goals as goal
use Rattle.litmus_test.proofs.outcomes.table.Outcomes.count.Goals.{in-Ok, in-Err+in_ok-insert_row-in-Err}

-- how the rows changed, and that the number of rounds is unchanged
record Counted (more : RowView) (old new : Inside) : Type 0 where
  rows : CountsAgain more old.rows.items new.rows.items ⊎ CountsFirst more old.rows.items new.rows.items
  kept : new.rounds ≡ old.rounds

counted : (c : goal.After-self-2-1)
    → Counted (record { values = c.args.values.now; rounds = c.args.rounds; first = c.args.first }) c.self.inside
    c.match-search.self-inside
counted c =
    let rows_are = ap (λ (table : TableView). table.rows) c.self.view_is in
    elim c.match-search.branch [
      | in-Ok w ↦
          let place = subst (λ rows. IsPlaceOf rows c.args.values.now w.in-Ok.at) (sym rows_are) w.in-Ok.ensures.found in
          let row = w.index_mut-row.result.now in
          record {
            rows = inl (record {
              at = w.in-Ok.at;
              row = row;
              in_range = place.in_range;
              is = w.index_mut-row.ensures.value;
              has = ap (λ (row : RowView). row.values) w.index_mut-row.ensures.value ∙ place.has row;
              set_there = ap (λ (inside : Inside). inside.rows.items) w.self-inside-is
                  ∙ ap (λ (row : RowView). set c.self.inside.rows.items w.in-Ok.at row) w.come_again.ensures;
            });
            kept = ap (λ (inside : Inside). inside.rounds) w.self-inside-is;
          }
      | in-Err+in_ok-insert_row-in-Err w ↦
          record {
            rows = inr (record {
              at = w.in-Err.at;
              gap = subst (λ rows. IsGapFor rows c.args.values.now w.in-Err.at) (sym rows_are) w.in-Err.ensures.absent;
              inserted = ap (λ (inside : Inside). inside.rows.items) w.self-inside-is
                  ∙ w.in_ok-insert_row-in-Err.ensures.ok;
            });
            kept = ap (λ (inside : Inside). inside.rounds) w.self-inside-is;
          }
    ]

-- the rows still ascend, and count `rounds` more rounds
pub invariant_of-self-2 : goal.invariant_of-self-2
invariant_of-self-2 c =
    let is = counted c in
    let grown = grows (record { values = c.args.values.now; rounds = c.args.rounds; first = c.args.first }) _ _ is.rows in
    let rounds_are = ap (λ (table : TableView). table.rounds) c.self.view_is in
    record {
      ascending = grown.ascending c.self.invariant.ascending;
      total = omega (arith, grown.total, is.kept, c.self.invariant.total);
      few = omega (arith, is.kept, rounds_are, c.requires);
    }

-- memory is needed only for an outcome that no row has
pub returns-in_err-insert_row-in-Err-clause-known : goal.returns-in_err-insert_row-in-Err-clause-known
returns-in_err-insert_row-in-Err-clause-known c = λ came.
    absurd (gap_lacks c.args.values.now c.args.self.now.rows c.in-Err.at c.in-Err.ensures.absent came)
