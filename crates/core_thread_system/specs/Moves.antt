-- What a core does while it runs a program, one move after another.
use Rattle.std.specs.Prelude.{◌≡◌, List, [], ◌∷◌, ◌++◌, Option, Some, Result}
use Rattle.address_map.specs.declared.config.Config.{Config}
use Rattle.address_map.specs.declared.request.Request.{Request}
use Rattle.core_thread_system.specs.Answers.{AfterCollect, AfterIssue}
use Rattle.core_thread_system.specs.Core.{CoreView}
use Rattle.core_thread_system.specs.Running.{IsLowestFree, accepted_steps}
use Rattle.core_thread_system.specs.declared.program.Step.{Step}
use Rattle.core_thread_system.specs.declared.program.Step.TheVariants as steps
use Rattle.receipt_ledger.specs.declared.receipt.Answer.{Answer}
use Rattle.receipt_ledger.specs.declared.receipt.Receipt.{Receipt}
use Rattle.slice_answer.specs.declared.answer.Refused.{Refused}

-- it takes a turn, which may get it a reply, or makes a request, which gets this answer
pub data Move : Type 0 where
  turn : Option Receipt → Move
  ask : Request → Result Answer Refused → Move

-- The core made these moves, and nothing else, and each request under the lowest tag that was free just then.
abbrev pub Moves : Config → List Move → CoreView → CoreView → Type 0
Moves c [] old new = new ≡ old
Moves c (turn received ∷ moves) old new =
    (next : CoreView) × AfterCollect c old received next × Moves c moves next new
Moves c (ask request answer ∷ moves) old new =
    (next : CoreView) × IsLowestFree old.tags (Some request.tag) × AfterIssue c old request answer next
    × Moves c moves next new

-- the accesses that were accepted
abbrev pub accepted_in : List Move → List Step
accepted_in [] = []
accepted_in (turn received ∷ moves) = accepted_in moves
accepted_in (ask request answer ∷ moves) = accepted_steps request answer ++ accepted_in moves

-- the accesses of a program
abbrev pub only_accesses : List Step → List Step
only_accesses [] = []
only_accesses (steps.Access word op ∷ program) = steps.Access word op ∷ only_accesses program
only_accesses (step ∷ program) = only_accesses program

-- The core has run these steps: what was accepted of its moves are their accesses, in order.
pub record HasRun (c : Config) (old : CoreView) (program : List Step) (new : CoreView) : Type 0 where
  pub moves : List Move
  pub made : Moves c moves old new
  pub accesses : accepted_in moves ≡ only_accesses program
