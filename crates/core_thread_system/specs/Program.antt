-- Programs, and what a core has made of one.
use Rattle.std.specs.Prelude.{◌≡◌, ℕ, ◌+◌, ◌<◌, ◌≤◌, ◌==◌, if◌then◌else◌, List, [], ◌∷◌, ◌++◌, length, map, take}
use Rattle.std.specs.Prelude.{IsSomeAnd, Some, slice_get}
use Rattle.address_map.specs.Place.{line_of, slice_of}
use Rattle.address_map.specs.declared.address.WordAddr.{WordAddr}
use Rattle.address_map.specs.declared.config.Config.{Config}
use Rattle.address_map.specs.declared.request.Op.{Op}
use Rattle.core_thread_system.specs.Answers.{IsRefusal}
use Rattle.core_thread_system.specs.Core.{CoreView, port_at}
use Rattle.core_thread_system.specs.declared.program.Outcome.{Outcome}
use Rattle.core_thread_system.specs.declared.program.Outcome.TheVariants as outcomes
use Rattle.core_thread_system.specs.declared.program.Step.{Step}
use Rattle.core_thread_system.specs.declared.program.Step.TheVariants as steps
use Rattle.receipt_ledger.specs.Port.{PortView}
use Rattle.receipt_ledger.specs.declared.receipt.Ask.{Ask}
use Rattle.receipt_ledger.specs.declared.receipt.Receipt.{Receipt}
use Rattle.slice_answer.specs.declared.answer.Refused.{Refused}

-- the accesses of a program to words of the slice of this number, in the program's order
abbrev pub accesses_in : Config → ℕ → List Step → List (WordAddr × Op)
accesses_in c slice [] = []
accesses_in c slice (steps.Access word op ∷ program) =
    (if (slice_of c (line_of word)).0 == slice then (word, op) ∷ [] else []) ++ accesses_in c slice program
accesses_in c slice (step ∷ program) = accesses_in c slice program

-- the accesses that were asked for
abbrev pub accesses_of : List Ask → List (WordAddr × Op)
accesses_of asked = map (λ ask. (ask.request.word, ask.request.op)) asked

-- Through the port these accesses were accepted, in this order, and no other. It is the same core's, of the same slice.
-- It has the receipts that it had, and may have got more; and it has seen no less of the log.
pub record HasAccepted (old : PortView) (accesses : List (WordAddr × Op)) (new : PortView) : Type 0 where
  pub core : new.core ≡ old.core
  pub slice : new.slice ≡ old.slice
  pub seen : old.seen ≤ new.seen
  pub asks : List Ask
  pub asked : new.asked ≡ old.asked ++ asks
  pub accesses_are : accesses_of asks ≡ accesses
  pub more : List Receipt
  pub receipts : new.receipts ≡ old.receipts ++ more

-- The core has made the accesses of these steps and no other, each in the slice that has its word.
pub record HasMade (c : Config) (old : CoreView) (program : List Step) (new : CoreView) : Type 0 where
  pub core : new.core ≡ old.core
  pub each : (slice : ℕ) → slice < 4
      → HasAccepted (port_at old slice) (accesses_in c slice program) (port_at new slice)

-- the steps of the program that were done: all, or those before the one at which it ended
abbrev pub done_of : List Step → Outcome → List Step
done_of program outcomes.Finished = program
done_of program (outcomes.Limit at) = take at program
done_of program (outcomes.Refused at refused) = take at program
done_of program outcomes.NotRun = []

-- Only an access is refused, and for this reason where a request for its word and operation is, under one of the core's
-- tags.
abbrev pub IsReasonFor : Config → Refused → Step → Type 0
IsReasonFor c refused (steps.Access word op) =
    (tag : ℕ) × (tag < 64) × IsRefusal c (record { op = op; word = word; tag = tag }) refused
IsReasonFor c refused step = ⊥

-- The program was run. Where it ended before a step, it has such a step, and what is refused there is for a reason.
abbrev pub IsStepOf : Config → List Step → Outcome → Type 0
IsStepOf c program outcomes.Finished = Unit {0}
IsStepOf c program (outcomes.Limit at) = at < length program
IsStepOf c program (outcomes.Refused at refused) = IsSomeAnd (slice_get program at) (IsReasonFor c refused)
IsStepOf c program outcomes.NotRun = ⊥

-- a step that settles leaves no tag in flight
abbrev pub IsSettledBy : CoreView → Step → Type 0
IsSettledBy v steps.Settle = v.tags ≡ 0
IsSettledBy v step = Unit {0}

-- A program that finished with a step that settles left no tag in flight.
abbrev pub EndsSettled : List Step → Outcome → CoreView → Type 0
EndsSettled program outcomes.Finished v =
    (at : ℕ) → at + 1 ≡ length program → slice_get program at ≡ Some steps.Settle → v.tags ≡ 0
EndsSettled program outcome v = Unit {0}
