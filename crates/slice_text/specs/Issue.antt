-- What an access or an eviction does, by what is decided.
use Rattle.std.specs.Prelude.{Bool, ℕ, List, ◌++◌, codes, decimal, Option, Some, None, if◌then◌else◌}
use Rattle.address_map.specs.declared.request.Op.{Op}
use Rattle.address_map.specs.declared.request.Op.TheVariants as ops
use Rattle.address_map.specs.declared.request.Request.{Request}
use Rattle.cache_table.specs.Name.{name_of}
use Rattle.slice_answer.specs.declared.answer.Evicted.{Evicted}
use Rattle.slice_answer.specs.declared.answer.Evicted.TheVariants as evictions
use Rattle.slice_answer.specs.declared.answer.Refused.{Refused}
use Rattle.slice_answer.specs.declared.answer.Refused.TheVariants as refusals
use Rattle.slice_answer.specs.declared.answer.Stall.{Stall}
use Rattle.slice_answer.specs.declared.answer.Stall.TheVariants as stalls
use Rattle.slice_core_cache.specs.declared.access.AccessKind.{AccessKind}
use Rattle.slice_core_cache.specs.declared.access.AccessKind.TheVariants as access_kinds
use Rattle.slice_core_cache.specs.declared.access.Ask.{Ask}
use Rattle.slice_core_cache.specs.declared.access.Ask.TheVariants as asks
use Rattle.slice_core_spec.specs.declared.decision.Decision.{Decision}
use Rattle.slice_core_spec.specs.declared.decision.Decision.TheVariants as decisions
use Rattle.slice_queues.specs.declared.message.Message.{Message}
use Rattle.slice_text.specs.Case.{text_of_case}
use Rattle.slice_text.specs.Effects.{text_of_awaited}
use Rattle.slice_text.specs.Message.{text_of_message}
use Rattle.slice_text.specs.declared.step.case.Event.{Event}
use Rattle.slice_text.specs.declared.step.case.Event.TheVariants as events
use Rattle.slice_text.specs.declared.step.issue.Eviction.{Eviction}
use Rattle.slice_text.specs.declared.step.issue.Issue.{Issue}

-- the event of the table for an access
abbrev pub event_of : Op → Event
event_of ops.Load = events.Load
event_of op = events.Write

-- ---- accesses

abbrev pub text_of_ask : Ask → List ℕ
text_of_ask asks.GetS = codes "GetS"
text_of_ask asks.GetM = codes "GetM"

-- a write to an exclusive copy, for which no message is sent
abbrev pub text_of_silent : Bool → List ℕ
text_of_silent silent = if silent then codes "; silent" else codes ""

-- what an access has to wait for
abbrev pub text_of_shortage : Stall → List ℕ
text_of_shortage stalls.NoRegister = codes "no miss register is free"
text_of_shortage stalls.NoTarget = codes "no target of its miss register is free"
text_of_shortage stalls.NoWay = codes "no way is free"
text_of_shortage stalls.WriteBackFull = codes "the write-back buffer is full"
text_of_shortage stalls.WriteBackBusy = codes "waits for Put-Ack"

abbrev pub text_of_access : ℕ → AccessKind → List ℕ
text_of_access slice (access_kinds.Hit way next silent) = codes "hit; to " ++ name_of next ++ text_of_silent silent
text_of_access slice (access_kinds.PrimaryMiss next ask placement) =
    codes "primary miss; to " ++ name_of next ++ codes "; sends " ++ text_of_ask ask
    ++ codes " to dir " ++ decimal slice
text_of_access slice access_kinds.SecondaryMiss = codes "secondary miss; joins"
text_of_access slice (access_kinds.Stall stall) = text_of_shortage stall

-- why a request is refused
abbrev pub text_of_reason : Request → Refused → List ℕ
text_of_reason request refusals.OutOfRange = codes "no word " ++ decimal request.word.0
text_of_reason request refusals.TagRange = codes "no tag " ++ decimal request.tag
text_of_reason request refusals.TagBusy = codes "tag " ++ decimal request.tag ++ codes " isn't handed out"
text_of_reason request refusals.CounterStore = codes "word " ++ decimal request.word.0 ++ codes " is a counter"
text_of_reason request refused = codes "not asked here"

-- what is decided of a request
abbrev pub text_of_decision : Issue → Decision → List ℕ
text_of_decision issue (decisions.Refuse refused) = text_of_reason issue.request refused
text_of_decision issue (decisions.Access local access) =
    text_of_case issue.case ++ codes ": " ++ text_of_access issue.slice access

abbrev pub text_of_issue : Issue → List ℕ
text_of_issue issue = text_of_decision issue issue.decision

-- ---- evictions

-- the message that the core sends to the directory
abbrev pub text_of_sent : ℕ → Option Message → List ℕ
text_of_sent slice None = codes ""
text_of_sent slice (Some message) = codes "; sends " ++ text_of_message message ++ codes " to dir " ++ decimal slice

-- what became of an eviction, by its answer
abbrev pub text_of_answer : Eviction → Evicted → List ℕ
text_of_answer eviction evictions.Evicting =
    codes "to " ++ name_of eviction.state ++ text_of_sent eviction.slice eviction.sent
text_of_answer eviction evictions.NotHeld = codes "no copy"
text_of_answer eviction evictions.Busy = codes "waits for " ++ text_of_awaited eviction.case.who
text_of_answer eviction evictions.WriteBackFull = codes "the write-back buffer is full"

abbrev pub text_of_eviction : Eviction → List ℕ
text_of_eviction eviction = text_of_case eviction.case ++ codes ": " ++ text_of_answer eviction eviction.answer
