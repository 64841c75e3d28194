-- What the structs of `lockup.h` say of answers.
use Rattle.std.specs.Prelude.{ℕ, Option, None, Some}
use Rattle.litmus_script.specs.declared.answers.Issued.{Issued}
use Rattle.litmus_script.specs.declared.answers.Issued.TheVariants as issued_kinds
use Rattle.lockup_c.specs.Number.{cell_number, channel_number, copy_number, core_number, core_of_pick, dir_number}
use Rattle.lockup_c.specs.Number.{refusal_number, sender_of_pick, stall_number}
use Rattle.lockup_c.specs.declared.structs.DecisionNumbers.{DecisionNumbers}
use Rattle.lockup_c.specs.declared.structs.IssuedNumbers.{IssuedNumbers}
use Rattle.lockup_c.specs.declared.structs.NextNumbers.{NextNumbers}
use Rattle.lockup_c.specs.declared.structs.PlannedNumbers.{PlannedNumbers}
use Rattle.lockup_c.specs.declared.structs.ReceiptNumbers.{ReceiptNumbers}
use Rattle.slice_answer.specs.declared.answer.Delivery.{Delivery}
use Rattle.slice_answer.specs.declared.answer.Delivery.TheVariants as deliveries
use Rattle.slice_core_cache.specs.declared.access.AccessKind.{AccessKind}
use Rattle.slice_core_cache.specs.declared.access.AccessKind.TheVariants as access_kinds
use Rattle.slice_core_cache.specs.declared.access.Placement.{Placement}
use Rattle.slice_core_cache.specs.declared.access.Placement.TheVariants as placements
use Rattle.slice_core_spec.specs.declared.decision.Decision.{Decision}
use Rattle.slice_core_spec.specs.declared.decision.Decision.TheVariants as decisions
use Rattle.slice_core_spec.specs.declared.transition.Transition.{Transition}
use Rattle.slice_core_spec.specs.declared.transition.Transition.TheVariants as transitions
use Rattle.slice_log.specs.declared.entry.Numbered.{Numbered}
use Rattle.slice_queues.specs.Pick.{line_of}
use Rattle.slice_queues.specs.declared.channel.Pick.{Pick}

abbrev pub issue_of : ℕ → ℕ → ℕ → IssuedNumbers
issue_of answer number reply = record { answer = answer; number = number; reply = reply }

abbrev pub no_issue : IssuedNumbers
no_issue = issue_of 0 0 0

abbrev pub issued_numbers : Issued → IssuedNumbers
issued_numbers (issued_kinds.Done number reply) = issue_of 0 number reply
issued_numbers (issued_kinds.Pending seq) = issue_of 1 seq 0
issued_numbers (issued_kinds.Stall stall) = issue_of 2 (stall_number stall) 0
issued_numbers (issued_kinds.Refused refused) = issue_of 3 (refusal_number refused) 0

abbrev pub receipt_of : ℕ → ℕ → ℕ → ℕ → ReceiptNumbers
receipt_of handed number tag reply = record { handed = handed; number = number; tag = tag; reply = reply }

abbrev pub no_receipt : ReceiptNumbers
no_receipt = receipt_of 0 0 0 0

abbrev pub receipt_numbers : Option Numbered → ReceiptNumbers
receipt_numbers None = no_receipt
receipt_numbers (Some given) = receipt_of 1 given.number given.entry.tag given.entry.reply

abbrev pub next_of : ℕ → ℕ → ℕ → ℕ → ℕ → NextNumbers
next_of answer channel line core from =
    record { answer = answer; channel = channel; line = line; core = core; from = from }

abbrev pub no_next : NextNumbers
no_next = next_of 0 0 0 0 0

abbrev pub next_numbers : Delivery Pick → NextNumbers
next_numbers (deliveries.Moved pick) =
    next_of 0 (channel_number pick) (line_of pick).0 (core_of_pick pick) (sender_of_pick pick)
next_numbers deliveries.Blocked = next_of 1 0 0 0 0
next_numbers deliveries.Nothing = next_of 2 0 0 0 0
next_numbers (deliveries.Broken cell) = next_of (cell_number cell) 0 0 0 0

abbrev pub plan_of : ℕ → ℕ → ℕ → ℕ → PlannedNumbers
plan_of answer next owner sharers = record { answer = answer; next = next; owner = owner; sharers = sharers }

abbrev pub no_plan : PlannedNumbers
no_plan = plan_of 0 0 0 0

-- the receiver's next state, and of the directory's entry its next owner and sharers
abbrev pub transition_numbers : Transition → PlannedNumbers
transition_numbers (transitions.Directory step) = plan_of 0 (dir_number step.state) (core_number step.owner) step.sharers
transition_numbers (transitions.Home step) = plan_of 0 (dir_number step.state) (core_number step.owner) step.sharers
transition_numbers (transitions.Forwarded step) = plan_of 0 (copy_number step.next) 0 0
transition_numbers (transitions.Fill step) = plan_of 0 (copy_number step.next) 0 0
transition_numbers (transitions.Acknowledge step) = plan_of 0 (copy_number step.next) 0 0

abbrev pub planned_numbers : Delivery Transition → PlannedNumbers
planned_numbers (deliveries.Moved transition) = transition_numbers transition
planned_numbers deliveries.Blocked = plan_of 1 0 0 0
planned_numbers deliveries.Nothing = plan_of 2 0 0 0
planned_numbers (deliveries.Broken cell) = plan_of (cell_number cell) 0 0 0

abbrev pub decision_with : ℕ → ℕ → ℕ → ℕ → DecisionNumbers
decision_with kind reason next victim = record { kind = kind; reason = reason; next = next; victim = victim }

abbrev pub no_decision : DecisionNumbers
no_decision = decision_with 0 0 0 0

abbrev pub victim_number : Placement → ℕ
victim_number placements.Held = 0
victim_number placements.Free = 0
victim_number placements.Victim = 1

abbrev pub access_numbers : AccessKind → DecisionNumbers
access_numbers (access_kinds.Hit way next silent) = decision_with 0 0 (copy_number next) 0
access_numbers (access_kinds.PrimaryMiss next ask placement) =
    decision_with 1 0 (copy_number next) (victim_number placement)
access_numbers (access_kinds.Stall stall) = decision_with 2 (stall_number stall) 0 0
access_numbers access_kinds.SecondaryMiss = decision_with 4 0 0 0

abbrev pub decision_numbers : Decision → DecisionNumbers
decision_numbers (decisions.Refuse refused) = decision_with 3 (refusal_number refused) 0 0
decision_numbers (decisions.Access local access) = access_numbers access
