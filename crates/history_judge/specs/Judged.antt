-- The judgement of a history.
use Rattle.std.specs.Prelude.{ℕ, List}
use Rattle.history_judge.specs.Order.{IsOrderOf, HasNoOrder}
use Rattle.history_judge.specs.declared.access.Access.{Access}
use Rattle.history_judge.specs.declared.verdict.Judgement.{Judgement}
use Rattle.history_judge.specs.declared.verdict.Judgement.TheVariants as judgements

-- an order is returned only if it is one, and a contradiction only if there is no order
abbrev pub IsJudged : (ℕ → ℕ) → List Access → Judgement → Type 0
IsJudged initial history (judgements.Coherent order) = IsOrderOf initial history order.items
IsJudged initial history (judgements.Incoherent reason) = HasNoOrder initial history
IsJudged initial history judgements.Undecided = Unit {0}
