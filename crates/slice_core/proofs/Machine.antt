-- Each call of a sound slice is steps of the small machine.
use Rattle.std.proofs.Common.{◌≡◌, ◌<◌, Option, Result, length, subst}
use Rattle.address_map.specs.declared.address.CoreId.{CoreId}
use Rattle.address_map.specs.declared.request.Request.{Request}
use Rattle.slice_core.proofs.Coherent.{whole}
use Rattle.slice_core.proofs.SameSlice.{same-deliver, same-issue, same-next}
use Rattle.slice_core.specs.Sound.{IsSound}
use Rattle.slice_answer.specs.declared.answer.Delivered.{Delivered}
use Rattle.slice_answer.specs.declared.answer.Issue.{Issue}
use Rattle.slice_answer.specs.declared.answer.Refused.{Refused}
use Rattle.slice_log.specs.Log.{IsLegal, initially}
use Rattle.slice_log.specs.declared.entry.Numbered.{Numbered}
use Rattle.slice_core_theory.proofs.Delivered.{deliver_next_performs, delivery_performs}
use Rattle.slice_core_theory.proofs.MachineHanded.{hand_leads}
use Rattle.slice_core_theory.proofs.Issued.{issue_leads}
use Rattle.slice_core_theory.specs.Shows.{IsAccounted, Leads, Performs, hand_steps, issue_steps, next_of}
use Rattle.slice_core_spec.specs.Calls.{AfterDeliverNext, AfterDelivery, AfterHand, AfterIssue, PartsView}
use Rattle.slice_queues.specs.declared.channel.Class.{Class}
use Rattle.slice_queues.specs.declared.channel.Pick.{Pick}
use Rattle.slice_answer.specs.declared.answer.Delivery.{Delivery}

-- A sound slice has each core's requests accounted for.
accounted : (p : PartsView) → IsSound p → IsAccounted p.view
accounted p sound = record { machine = sound.counted.machine; accounts = sound.accounts.accounts }

-- A sound slice's log is legal from the initial values that it had before.
legal : (old new : PartsView) → new.view.init ≡ old.view.init → IsSound new
    → IsLegal (initially old.view.init) new.view.log
legal old new same sound = subst (λ init. IsLegal (initially init) new.view.log) same sound.faithful.legal

module _ (old : PartsView) (sound : IsSound old) (new : PartsView) where
  pub machine-issue : (core : CoreId) (request : Request) (answer : Result Issue Refused)
      → core.0 < length old.view.caches → IsSound new → AfterIssue old core request answer new
      → Leads (issue_steps (next_of old.view core request) answer) old.view new.view
  machine-issue core request answer known left after =
      issue_leads old core request answer new (accounted old sound) known
      (legal old new (same-issue old core request answer new after).init left) after

  pub machine-hand : (core : CoreId) (answer : Option Numbered) → core.0 < length old.view.caches
      → AfterHand old core answer new → Leads (hand_steps answer) old.view new.view
  machine-hand core answer known after = hand_leads old new core answer (accounted old sound) known after

  pub machine-deliver : (pick : Pick) (answer : Delivered) → IsSound new → AfterDelivery old pick answer new
      → Performs old.view new.view
  machine-deliver pick answer left after =
      delivery_performs old new (accounted old sound) (whole old sound)
      (legal old new (same-deliver old pick answer new after).init left) pick answer after

  pub machine-next : (class : Class) (answer : Delivery Pick) → IsSound new → AfterDeliverNext old class answer new
      → Performs old.view new.view
  machine-next class answer left after =
      deliver_next_performs old new (accounted old sound) (whole old sound)
      (legal old new (same-next old class answer new after).init left) class answer after
