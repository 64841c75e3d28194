-- What became of an access, by its slice's answer.
use Rattle.std.specs.Prelude.{◌≡◌, ◌≢◌, ℕ, List, slice_index_or, Result, Ok, Err}
use Rattle.address_map.specs.declared.address.CoreId.{CoreId}
use Rattle.address_map.specs.declared.request.Op.TheVariants as ops
use Rattle.address_map.specs.declared.request.Request.{Request}
use Rattle.slice_answer.specs.declared.answer.Issue.{Issue}
use Rattle.slice_answer.specs.declared.answer.Issue.TheVariants as issues
use Rattle.slice_answer.specs.declared.answer.Refused.{Refused}
use Rattle.slice_answer.specs.declared.answer.Refused.TheVariants as refusals
use Rattle.slice_core.specs.declared.run.Call.TheVariants as slice_calls
use Rattle.slice_core.specs.declared.run.CallAnswer.TheVariants as call_answers
use Rattle.slice_core_spec.specs.Calls.{PartsView}
use Rattle.slice_log.specs.declared.entry.Entry.{Entry}
use Rattle.litmus_script.specs.Machine.{Answers, OneSlice}
use Rattle.litmus_script.specs.declared.answers.Issued.{Issued}
use Rattle.litmus_script.specs.declared.answers.Issued.TheVariants as issued_kinds

-- the slice's answer
abbrev pub answer_of : Issued → Result Issue Refused
answer_of (issued_kinds.Done number reply) = Ok (issues.Done number)
answer_of (issued_kinds.Pending seq) = Ok (issues.Pending seq)
answer_of (issued_kinds.Stall stall) = Ok (issues.Stall stall)
answer_of (issued_kinds.Refused refused) = Err refused

-- a default where there is no entry
abbrev pub no_entry : Entry
no_entry =
    record { op = ops.Load; word = record { 0 = 0 }; seq = 0; reply = 0; since = 0; core = record { 0 = 0 }; tag = 0 }

-- an access that is done has the reply of its entry, and running out of memory is not one of the outcomes
abbrev pub IsSaid : Issued → List Entry → Type 0
IsSaid (issued_kinds.Done number reply) log = reply ≡ (slice_index_or log number no_entry).reply
IsSaid (issued_kinds.Refused refused) log = refused ≢ refusals.Memory
IsSaid issued log = Unit {0}

-- the state answered the access, and this became of it
pub record Issues (core : CoreId) (request : Request) (issued : Issued) (old new : PartsView) : Type 0 where
  pub answers : Answers (slice_calls.Issue core request) (call_answers.Issue (answer_of issued)) old new
  pub said : IsSaid issued new.view.log

-- the slice answered the access, and this became of it
abbrev pub IsIssued : ℕ → CoreId → Request → Issued → List PartsView → List PartsView → Type 0
IsIssued slice core request issued old new = OneSlice slice (Issues core request issued) old new

-- the state had no memory for the access, and answered so
abbrev pub LacksMemory : CoreId → Request → PartsView → PartsView → Type 0
LacksMemory core request old new =
    Answers (slice_calls.Issue core request) (call_answers.Issue (Err refusals.Memory)) old new

-- the slice had none
abbrev pub IsOutOfMemory : ℕ → CoreId → Request → List PartsView → List PartsView → Type 0
IsOutOfMemory slice core request old new = OneSlice slice (LacksMemory core request) old new
