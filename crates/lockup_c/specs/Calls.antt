-- What each export does to what a handle has, by the code that it returns.
use Rattle.std.specs.Prelude.{◌≡◌, ◌⊎◌, ℕ, ◌%◌, Bool, Option, None, Some, Result, Ok, Err}
use Rattle.std.specs.declared.alloc.AllocError.{AllocError}
use Rattle.address_map.specs.Place.{line_of as line_of_word}
use Rattle.address_map.specs.declared.address.CoreId.{CoreId}
use Rattle.address_map.specs.declared.address.LineAddr.{LineAddr}
use Rattle.address_map.specs.declared.address.SliceId.{SliceId}
use Rattle.address_map.specs.declared.request.Request.{Request}
use Rattle.litmus_script.specs.Issued.{IsIssued, IsOutOfMemory}
use Rattle.litmus_script.specs.Machine.{HasAt, IsAnswered}
use Rattle.litmus_script.specs.declared.answers.Issued.{Issued}
use Rattle.lockup_c.specs.Named.{copy_named, file_named, pick_named, request_named, slice_named, turn_named}
use Rattle.lockup_c.specs.Number.{delivered_number, evicted_number, flag}
use Rattle.lockup_c.specs.Numbers.{decision_numbers, issued_numbers, next_numbers, no_decision, no_issue, no_next, no_plan}
use Rattle.lockup_c.specs.Numbers.{no_receipt, planned_numbers, receipt_numbers}
use Rattle.lockup_c.specs.declared.held.Held.{Held}
use Rattle.lockup_c.specs.declared.held.Held.TheVariants as helds
use Rattle.lockup_c.specs.declared.structs.DecisionNumbers.{DecisionNumbers}
use Rattle.lockup_c.specs.declared.structs.IssuedNumbers.{IssuedNumbers}
use Rattle.lockup_c.specs.declared.structs.NextNumbers.{NextNumbers}
use Rattle.lockup_c.specs.declared.structs.PlannedNumbers.{PlannedNumbers}
use Rattle.lockup_c.specs.declared.structs.ReceiptNumbers.{ReceiptNumbers}
use Rattle.simulator.specs.NewLog.{BeginsLogAt}
use Rattle.simulator.specs.Simulator.{config_of, slices_of}
use Rattle.simulator.specs.declared.simulator.Simulator.{Simulator}
use Rattle.slice_answer.specs.declared.answer.Delivered.{Delivered}
use Rattle.slice_answer.specs.declared.answer.Delivery.{Delivery}
use Rattle.slice_answer.specs.declared.answer.Evicted.{Evicted}
use Rattle.slice_core.specs.declared.run.Call.TheVariants as slice_calls
use Rattle.slice_core.specs.declared.run.CallAnswer.TheVariants as call_answers
use Rattle.slice_core_spec.specs.Calls.{next_pick}
use Rattle.slice_core_spec.specs.Decision.{decision_of}
use Rattle.slice_core_spec.specs.Plan.{planned_at}
use Rattle.slice_core_spec.specs.declared.decision.Decision.{Decision}
use Rattle.slice_core_spec.specs.declared.transition.Transition.{Transition}
use Rattle.slice_log.specs.declared.entry.Numbered.{Numbered}
use Rattle.slice_queues.specs.Pick.{line_of}
use Rattle.slice_queues.specs.declared.channel.Class.{Class}
use Rattle.slice_queues.specs.declared.channel.Pick.{Pick}

-- ---- handles

-- the call is made on the handle's machine; if it has none, this holds, and what it has stays
abbrev pub OnMachine : (Simulator → Simulator → Type 0) → Type 0 → Option Held → Option Held → Type 0
OnMachine Made Nothing (Some (helds.Machine old)) (Some (helds.Machine new)) = Made old new
OnMachine Made Nothing old new = Nothing × (new ≡ old)

abbrev pub HasNoMachine : Held → Type 0
HasNoMachine (helds.Machine simulator) = ⊥
HasNoMachine held = Unit {0}

-- .. and looks at it alone
abbrev pub AtMachine : (Simulator → Type 0) → Type 0 → Option Held → Type 0
AtMachine Seen Nothing (Some (helds.Machine simulator)) = Seen simulator
AtMachine Seen Nothing held = Nothing

-- the numbers name something, or else this holds
abbrev pub IfNamed : {X : Type 0} → Option X → (X → Type 0) → Type 0 → Type 0
IfNamed None Named Nothing = Nothing
IfNamed (Some x) Named Nothing = Named x

-- one of a list is shown by its numbers, or there is none at its place
abbrev pub SaysFound : {X N : Type 0} → Option X → (X → N) → N → ℕ → N → Type 0
SaysFound found number none code numbers =
    IfNamed found (λ x. (code ≡ 0) × (numbers ≡ number x)) ((code ≡ 2) × (numbers ≡ none))

-- this, or there was no memory for it
abbrev pub OrNoMemory : ℕ → Type 0 → Type 0 → Type 0
OrNoMemory code Seen Nothing = Seen ⊎ ((code ≡ 3) × Nothing)

-- ---- steps

-- the core's access got an answer, and this became of it
pub record IsIssuedAs (named : CoreId × Request) (numbers : IssuedNumbers) (old new : Simulator) : Type 0 where
  pub config : config_of new ≡ config_of old
  pub issued : Issued
  pub is : IsIssued ((line_of_word named.1.word).0 % (config_of old).slices) named.0 named.1 issued
      (slices_of old) (slices_of new)
  pub said : numbers ≡ issued_numbers issued

-- its slice had no memory for it
pub record LacksMemory (named : CoreId × Request) (numbers : IssuedNumbers) (old new : Simulator) : Type 0 where
  pub config : config_of new ≡ config_of old
  pub is : IsOutOfMemory ((line_of_word named.1.word).0 % (config_of old).slices) named.0 named.1
      (slices_of old) (slices_of new)
  pub said : numbers ≡ no_issue

abbrev pub IssuesBy : ℕ → CoreId × Request → IssuedNumbers → Simulator → Simulator → Type 0
IssuesBy code named numbers old new =
    ((code ≡ 0) × IsIssuedAs named numbers old new) ⊎ ((code ≡ 3) × LacksMemory named numbers old new)

abbrev pub Issues : ℕ → ℕ → ℕ → ℕ → ℕ → ℕ → ℕ → IssuedNumbers → Option Held → Option Held → Type 0
Issues core tag op word operand replacement code numbers =
    OnMachine
    (λ old new. IfNamed (request_named (config_of old) core tag op word operand replacement)
    (λ named. IssuesBy code named numbers old new)
    ((code ≡ 2) × (numbers ≡ no_issue) × (new ≡ old)))
    ((code ≡ 1) × (numbers ≡ no_issue))

pub record IsEvicted (named : CoreId × LineAddr) (answer : ℕ) (old new : Simulator) : Type 0 where
  pub config : config_of new ≡ config_of old
  pub evicted : Evicted
  pub answered : IsAnswered (named.1.0 % (config_of old).slices) (slice_calls.Evict named.0 named.1)
      (call_answers.Evict evicted) (slices_of old) (slices_of new)
  pub said : answer ≡ evicted_number evicted

abbrev pub Evicts : ℕ → ℕ → ℕ → ℕ → Option Held → Option Held → Type 0
Evicts core line code answer =
    OnMachine
    (λ old new. IfNamed (copy_named (config_of old) core line)
    (λ named. (code ≡ 0) × IsEvicted named answer old new)
    ((code ≡ 2) × (answer ≡ 0) × (new ≡ old)))
    ((code ≡ 1) × (answer ≡ 0))

pub record IsDelivered (pick : Pick) (answer : ℕ) (old new : Simulator) : Type 0 where
  pub config : config_of new ≡ config_of old
  pub delivered : Delivered
  pub answered : IsAnswered ((line_of pick).0 % (config_of old).slices) (slice_calls.Deliver pick)
      (call_answers.Deliver delivered) (slices_of old) (slices_of new)
  pub said : answer ≡ delivered_number delivered

abbrev pub Delivers : ℕ → ℕ → ℕ → ℕ → ℕ → ℕ → Option Held → Option Held → Type 0
Delivers channel line core from code answer =
    OnMachine
    (λ old new. IfNamed (pick_named (config_of old) channel line core from)
    (λ pick. (code ≡ 0) × IsDelivered pick answer old new)
    ((code ≡ 2) × (answer ≡ 0) × (new ≡ old)))
    ((code ≡ 1) × (answer ≡ 0))

pub record IsDeliveredNext (named : SliceId × Class) (numbers : NextNumbers) (old new : Simulator) : Type 0 where
  pub config : config_of new ≡ config_of old
  pub delivered : Delivery Pick
  pub answered : IsAnswered named.0.0 (slice_calls.DeliverNext named.1)
      (call_answers.DeliverNext delivered) (slices_of old) (slices_of new)
  pub said : numbers ≡ next_numbers delivered

abbrev pub DeliversNext : ℕ → ℕ → ℕ → NextNumbers → Option Held → Option Held → Type 0
DeliversNext slice channel code numbers =
    OnMachine
    (λ old new. IfNamed (turn_named (config_of old) slice channel)
    (λ named. (code ≡ 0) × IsDeliveredNext named numbers old new)
    ((code ≡ 2) × (numbers ≡ no_next) × (new ≡ old)))
    ((code ≡ 1) × (numbers ≡ no_next))

pub record IsHanded (named : CoreId × SliceId) (numbers : ReceiptNumbers) (old new : Simulator) : Type 0 where
  pub config : config_of new ≡ config_of old
  pub handed : Option Numbered
  pub answered : IsAnswered named.1.0 (slice_calls.Hand named.0) (call_answers.Hand handed)
      (slices_of old) (slices_of new)
  pub said : numbers ≡ receipt_numbers handed

abbrev pub Hands : ℕ → ℕ → ℕ → ReceiptNumbers → Option Held → Option Held → Type 0
Hands core slice code numbers =
    OnMachine
    (λ old new. IfNamed (file_named (config_of old) core slice)
    (λ named. (code ≡ 0) × IsHanded named numbers old new)
    ((code ≡ 2) × (numbers ≡ no_receipt) × (new ≡ old)))
    ((code ≡ 1) × (numbers ≡ no_receipt))

-- the slice began a new log or not, as the number says, or there was no memory for it
abbrev pub SaysBegun : ℕ → ℕ → Result Bool AllocError → Type 0
SaysBegun code begun (Ok is_quiet) = (code ≡ 0) × (begun ≡ flag is_quiet)
SaysBegun code begun (Err error) = (code ≡ 3) × (begun ≡ 0)

pub record IsLogBegun (slice : SliceId) (code begun : ℕ) (old new : Simulator) : Type 0 where
  pub config : config_of new ≡ config_of old
  pub answer : Result Bool AllocError
  pub is : BeginsLogAt slice.0 answer (slices_of old) (slices_of new)
  pub said : SaysBegun code begun answer

abbrev pub BeginsLogOf : ℕ → ℕ → ℕ → Option Held → Option Held → Type 0
BeginsLogOf slice code begun =
    OnMachine
    (λ old new. IfNamed (slice_named (config_of old) slice)
    (λ named. IsLogBegun named code begun old new)
    ((code ≡ 2) × (begun ≡ 0) × (new ≡ old)))
    ((code ≡ 1) × (begun ≡ 0))

-- ---- what a step would do

pub record IsDecided (named : CoreId × Request) (numbers : DecisionNumbers) (simulator : Simulator) : Type 0 where
  pub decision : Decision
  pub decided : HasAt (slices_of simulator) ((line_of_word named.1.word).0 % (config_of simulator).slices)
      (λ state. decision ≡ decision_of state.view named.0 named.1)
  pub said : numbers ≡ decision_numbers decision

abbrev pub Decides : ℕ → ℕ → ℕ → ℕ → ℕ → ℕ → ℕ → DecisionNumbers → Option Held → Type 0
Decides core tag op word operand replacement code numbers =
    AtMachine
    (λ simulator. IfNamed (request_named (config_of simulator) core tag op word operand replacement)
    (λ named. (code ≡ 0) × IsDecided named numbers simulator)
    ((code ≡ 2) × (numbers ≡ no_decision)))
    ((code ≡ 1) × (numbers ≡ no_decision))

pub record IsPlanned (pick : Pick) (numbers : PlannedNumbers) (simulator : Simulator) : Type 0 where
  pub plan : Delivery Transition
  pub planned : HasAt (slices_of simulator) ((line_of pick).0 % (config_of simulator).slices)
      (λ state. plan ≡ planned_at state.view pick)
  pub said : numbers ≡ planned_numbers plan

abbrev pub Plans : ℕ → ℕ → ℕ → ℕ → ℕ → PlannedNumbers → Option Held → Type 0
Plans channel line core from code numbers =
    AtMachine
    (λ simulator. IfNamed (pick_named (config_of simulator) channel line core from)
    (λ pick. (code ≡ 0) × IsPlanned pick numbers simulator)
    ((code ≡ 2) × (numbers ≡ no_plan)))
    ((code ≡ 1) × (numbers ≡ no_plan))

pub record IsNext (named : SliceId × Class) (numbers : NextNumbers) (simulator : Simulator) : Type 0 where
  pub next : Delivery Pick
  pub is : HasAt (slices_of simulator) named.0.0 (λ state. next ≡ next_pick state named.1)
  pub said : numbers ≡ next_numbers next

abbrev pub NamesNext : ℕ → ℕ → ℕ → NextNumbers → Option Held → Type 0
NamesNext slice channel code numbers =
    AtMachine
    (λ simulator. IfNamed (turn_named (config_of simulator) slice channel)
    (λ named. (code ≡ 0) × IsNext named numbers simulator)
    ((code ≡ 2) × (numbers ≡ no_next)))
    ((code ≡ 1) × (numbers ≡ no_next))
