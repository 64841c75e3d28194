use Rattle.std.proofs.Common.{rules}
use Rattle.std.proofs.lemmas.Fn.{always_returns_same}
use Rattle.litmus_test.proofs.Rows.{against, searched}
use Rattle.litmus_test.proofs.outcomes.table.Outcomes.search.Goals as goal

-- the closure compares a row's values with those sought, and the slice is the table's rows
pub returns : goal.returns
returns c =
    let facts = c.binary_search_by.ensures in
    let by_values = facts.position (against c.args.values.now)
    (always_returns_same _ _ _ (λ a r f called. search rules)) in
    rw (← c.self.view_is, ← c.deref.ensures.value)
    (searched _ (rw c.deref.ensures.value c.self.invariant.ascending)
    c.args.values.now _ facts.bound by_values)
