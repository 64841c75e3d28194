use Rattle.std.proofs.Common.{ℕ, ◌<◌, ◌∷◌, []}
use Rattle.script_coverage.specs.Read.{IsCell}
use Rattle.script_coverage.proofs.read.Names.number.Given as goal

abbrev pub invariant-loop-number : goal.invariant-loop-number
invariant-loop-number l =
    (k : ℕ) → k < l.number → ¬ IsCell (l.self.table.now ∷ l.self.state.now ∷ l.self.event.now ∷ l.self.outcome.now ∷ []) k
