-- Each call of a slice leaves its lines reached: a request, an eviction, and a reply that is handed out.
use Rattle.std.proofs.Common.{◌<◌, Option, length, Result}
use Rattle.address_map.specs.declared.address.CoreId.{CoreId}
use Rattle.address_map.specs.declared.address.LineAddr.{LineAddr}
use Rattle.address_map.specs.declared.request.Request.{Request}
use Rattle.slice_answer.specs.declared.answer.Evicted.{Evicted}
use Rattle.slice_answer.specs.declared.answer.Issue.{Issue}
use Rattle.slice_answer.specs.declared.answer.Refused.{Refused}
use Rattle.slice_core_theory.proofs.Accesses.{reached_hand, reached_hit, reached_join, reached_open}
use Rattle.slice_core_theory.proofs.Evictions.{reached_evict}
use Rattle.slice_core_theory.proofs.KeptByCalls.{evicted_keeps, handed_keeps, issue_keeps}
use Rattle.slice_core_theory.proofs.Steps.{KeepsAccesses}
use Rattle.slice_core_theory.specs.Stands.{AreReached}
use Rattle.slice_core_theory.specs.Whole.{IsWhole}
use Rattle.slice_core_spec.specs.Calls.{PartsView, AfterEvict, AfterHand, AfterIssue}
use Rattle.slice_log.specs.declared.entry.Numbered.{Numbered}

accesses_keep : KeepsAccesses IsWhole AreReached
accesses_keep = record {
  hit = λ v core local request next whole known inside found held row all.
      reached_hit v core local whole.shaped whole.few known inside (whole.kept core known) request next held row all;
  opening = λ v core local request way next ask misses target whole known inside place victim row adds all.
      reached_open v core local whole.shaped whole.few known inside (whole.kept core known) request way next ask misses
      place victim row all;
  join = λ v core local request misses target whole known inside waits adds all.
      reached_join v core request misses known all;
  evict = λ v core local whole known inside leaves all.
      reached_evict v core local whole.shaped whole.few known inside (whole.kept core known) leaves all;
  hand = λ v core tag known all. reached_hand v core tag known all;
}

-- A request leaves each line reached.
pub reached_issue : (old : PartsView) (core : CoreId) (request : Request) (answer : Result Issue Refused)
    (new : PartsView) → IsWhole old.view → core.0 < length old.view.caches → AreReached old.view
    → AfterIssue old core request answer new → AreReached new.view
reached_issue old core request answer new whole known all =
    issue_keeps IsWhole AreReached accesses_keep old core request answer new whole whole known all

-- An eviction leaves each line reached.
pub reached_evicted : (old : PartsView) (core : CoreId) (line : LineAddr) (answer : Evicted) (new : PartsView)
    → IsWhole old.view → core.0 < length old.view.caches → AreReached old.view
    → AfterEvict old core line answer new → AreReached new.view
reached_evicted old core line answer new whole known all =
    evicted_keeps IsWhole AreReached accesses_keep old core line answer new whole whole known all

-- A reply that is handed out leaves each line reached.
pub reached_handed : (old : PartsView) (core : CoreId) (answer : Option Numbered) (new : PartsView)
    → core.0 < length old.view.caches → AreReached old.view → AfterHand old core answer new → AreReached new.view
reached_handed old core answer new known all =
    handed_keeps IsWhole AreReached accesses_keep old core answer new known all
