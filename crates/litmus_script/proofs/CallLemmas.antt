-- A state's answer to a call, and the state after it, show that it answered the call.
use Rattle.std.proofs.Common.{◌≡◌, subst}
use Rattle.std.specs.Prelude.{Option, Result}
use Rattle.address_map.specs.declared.address.CoreId.{CoreId}
use Rattle.address_map.specs.declared.address.LineAddr.{LineAddr}
use Rattle.address_map.specs.declared.request.Request.{Request}
use Rattle.slice_core.specs.declared.run.Call.TheVariants as slice_calls
use Rattle.slice_core.specs.declared.run.CallAnswer.TheVariants as call_answers
use Rattle.slice_answer.specs.declared.answer.Delivered.{Delivered}
use Rattle.slice_answer.specs.declared.answer.Evicted.{Evicted}
use Rattle.slice_answer.specs.declared.answer.Issue.{Issue}
use Rattle.slice_answer.specs.declared.answer.Refused.{Refused}
use Rattle.slice_log.specs.declared.entry.Numbered.{Numbered}
use Rattle.slice_core_spec.specs.Calls.{PartsView, AfterDeliverNext, AfterDelivery, AfterEvict, AfterHand, AfterIssue}
use Rattle.slice_queues.specs.declared.channel.Class.{Class}
use Rattle.slice_queues.specs.declared.channel.Pick.{Pick}
use Rattle.litmus_script.specs.Machine.{Answers}
use Rattle.slice_answer.specs.declared.answer.Delivery.{Delivery}

-- .. an access, whose answer is known
pub issued : (old new : PartsView) (core : CoreId) (request : Request) (answer known : Result Issue Refused)
    → AfterIssue old core request answer new → answer ≡ known
    → Answers (slice_calls.Issue core request) (call_answers.Issue known) old new
issued old new core request answer known after is =
    subst (λ (a : Result Issue Refused). Answers (slice_calls.Issue core request) (call_answers.Issue a) old new) is
    (record { made = after })

pub evicted : (old new : PartsView) (core : CoreId) (line : LineAddr) (answer : Evicted)
    → AfterEvict old core line answer new → Answers (slice_calls.Evict core line) (call_answers.Evict answer) old new
evicted old new core line answer after = record { made = after }

pub delivered : (old new : PartsView) (pick : Pick) (answer : Delivered)
    → AfterDelivery old pick answer new → Answers (slice_calls.Deliver pick) (call_answers.Deliver answer) old new
delivered old new pick answer after = record { made = after }

pub delivered_next : (old new : PartsView) (class : Class) (answer : Delivery Pick)
    → AfterDeliverNext old class answer new →
    Answers (slice_calls.DeliverNext class) (call_answers.DeliverNext answer) old new
delivered_next old new class answer after = record { made = after }

pub handed : (old new : PartsView) (core : CoreId) (answer : Option Numbered)
    → AfterHand old core answer new → Answers (slice_calls.Hand core) (call_answers.Hand answer) old new
handed old new core answer after = record { made = after }
