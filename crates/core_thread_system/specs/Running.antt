-- What the parts of a run return.
use Rattle.std.specs.Prelude.{◌≡◌, ◌<◌, ℕ, true, false, List, [], ◌∷◌, Option, Some, None, Result, Ok}
use Rattle.address_map.specs.CoreSet.{has}
use Rattle.address_map.specs.declared.config.Config.{Config}
use Rattle.address_map.specs.declared.request.Request.{Request}
use Rattle.core_thread_system.specs.Program.{IsReasonFor}
use Rattle.core_thread_system.specs.declared.program.Step.{Step}
use Rattle.core_thread_system.specs.declared.program.Step.TheVariants as steps
use Rattle.core_thread_system.specs.declared.run.Halt.{Halt}
use Rattle.core_thread_system.specs.declared.run.Halt.TheVariants as halts
use Rattle.receipt_ledger.specs.declared.receipt.Answer.{Answer}
use Rattle.receipt_ledger.specs.declared.receipt.Answer.TheVariants as answers
use Rattle.slice_answer.specs.declared.answer.Refused.{Refused}

-- what a request with this answer has made: its access, where it was accepted
abbrev pub accepted_steps : Request → Result Answer Refused → List Step
accepted_steps request (Ok (answers.Done r)) = steps.Access request.word request.op ∷ []
accepted_steps request (Ok answers.Pending) = steps.Access request.word request.op ∷ []
accepted_steps request answer = []

-- A step may end a run because it needs more turns, and an access because it is refused.
abbrev pub IsHaltOf : Config → Step → Halt → Type 0
IsHaltOf c step halts.Limit = Unit {0}
IsHaltOf c step (halts.Refused refused) = IsReasonFor c refused step

-- The tag isn't among these, and each lower one is; or all 64 are.
abbrev pub IsLowestFree : ℕ → Option ℕ → Type 0
IsLowestFree tags (Some tag) = (tag < 64) × (has tags tag ≡ false) × ((lower : ℕ) → lower < tag → has tags lower ≡ true)
IsLowestFree tags None = (tag : ℕ) → tag < 64 → has tags tag ≡ true
