-- A request that isn't refused stores to no counter, and what is done at once is the last of the log.
use Rattle.std.proofs.Common.{◌≡◌, ℕ, ◌⊎◌, Bool, true, false, not, if◌then◌else◌, length, Ok, Option, Some, None}
use Rattle.std.proofs.Common.{refl, ⊎_elim}
use Rattle.std.specs.Prelude.{◌&&◌, nat_lt}
use Rattle.address_map.specs.Locator.{is_past, local_at}
use Rattle.address_map.specs.Place.{line_of}
use Rattle.address_map.specs.declared.address.CoreId.{CoreId}
use Rattle.address_map.specs.declared.address.Local.{Local}
use Rattle.address_map.specs.declared.request.Request.{Request}
use Rattle.receipt_ledger.specs.Booked.{stores_to}
use Rattle.slice_answer.specs.declared.answer.Issue.{Issue}
use Rattle.slice_answer.specs.declared.answer.Issue.TheVariants as issues
use Rattle.slice_answer.specs.declared.answer.Refused.{Refused}
use Rattle.slice_answer.specs.declared.answer.Refused.TheVariants as refusals
use Rattle.slice_core_cache.specs.Access.{access_of}
use Rattle.slice_core_cache.specs.CoreCache.{tag_at}
use Rattle.slice_core_cache.specs.Tags.{is_free}
use Rattle.slice_core_cache.specs.declared.access.AccessKind.{AccessKind}
use Rattle.slice_core_cache.specs.declared.access.AccessKind.TheVariants as access_kinds
use Rattle.slice_core_spec.specs.Decision.{decision_at, decision_of, is_counter, overwrites}
use Rattle.slice_core_spec.specs.Calls.{AfterDecision}
use Rattle.slice_core_spec.specs.Calls.{PartsView, AfterAccepting, AfterAccess, AfterIssue, IsAccepted, LacksMemory}
use Rattle.slice_core_spec.specs.View.{View, cache_at}
use Rattle.slice_core_spec.specs.declared.decision.Decision.{Decision}
use Rattle.slice_core_spec.specs.declared.decision.Decision.TheVariants as decisions

-- An access passed the third test before it.
third : (first second last : Bool) (one other why : Refused) (decision : Decision) (local : Local) (access : AccessKind)
    → (if first then decisions.Refuse one else if second then decisions.Refuse other
    else if last then decisions.Refuse why else decision) ≡ decisions.Access local access → last ≡ false
third true second last one other why decision local access is = absurd (cc)
third false true last one other why decision local access is = absurd (cc)
third false false true one other why decision local access is = absurd (cc)
third false false false one other why decision local access is = refl

-- what follows once the line's place was looked up
abbrev by_place : View → CoreId → Request → Option Local → Decision
by_place v core request None = decisions.Refuse refusals.WrongSlice
by_place v core request (Some local) = decision_at v core request local

placed : (v : View) (core : CoreId) (request : Request) (local : Local) (access : AccessKind) (past : Bool)
    (found : Option Local)
    → (if past then decisions.Refuse refusals.OutOfRange else by_place v core request found)
    ≡ decisions.Access local access
    → stores_to v.counters request.op request.word ≡ false
placed v core request local access true found is = absurd (cc)
placed v core request local access false None is = absurd (cc)
placed v core request local access false (Some here) is =
    third (not (nat_lt request.tag 64)) (not (is_free (tag_at (cache_at v core) request.tag)))
    (overwrites request.op && is_counter v request.word) refusals.TagRange refusals.TagBusy refusals.CounterStore
    (decisions.Access here (access_of (cache_at v core) here request.tag request.op)) local access is

module _ (old : PartsView) (core : CoreId) (request : Request) (issue : Issue) (new : PartsView) where
  spares : (decision : Decision) → decision_of old.view core request ≡ decision
      → AfterDecision decision old core request (Ok issue) new
      → stores_to old.view.counters request.op request.word ≡ false
  spares (decisions.Refuse why) is after = absurd (cc (after.0))
  spares (decisions.Access local access) is after =
      placed old.view core request local access (is_past old.view.lines request.word)
      (local_at old.view.lines (line_of request.word).0) is

-- ---- done at once

module _ (old : PartsView) (core : CoreId) (request : Request) (number : ℕ) (new : PartsView) where
  logged : (local : Local) (access : AccessKind) (room : ℕ) (issue : Issue) → issues.Done number ≡ issue
      → AfterAccepting access (record old { room = room }) core request local issue new → number ≡ length old.view.log
  logged local (access_kinds.Stall stall) room issue is after = absurd (cc (is, after.0))
  logged local (access_kinds.Hit way next silent) room issue is after = cc (is, after.0)
  logged local access_kinds.SecondaryMiss room issue is after = absurd (cc (is, after.3.0))
  logged local (access_kinds.PrimaryMiss next ask placement) room issue is after = absurd (cc (is, after.3.0))

  let_in : (local : Local) (access : AccessKind)
      → LacksMemory old (Ok (issues.Done number)) new
      ⊎ IsAccepted access old core request local (Ok (issues.Done number)) new
      → number ≡ length old.view.log
  let_in local access after =
      ⊎_elim (λ lacks. absurd (cc (lacks.refused)))
      (λ is. logged local access is.0 is.1 (cc (is.4)) is.5) after

  accessed : (local : Local) (access : AccessKind) →
      AfterAccess access old core request local (Ok (issues.Done number)) new
      → number ≡ length old.view.log
  accessed local (access_kinds.Stall stall) after = absurd (cc (after.0))
  accessed local (access_kinds.Hit way next silent) after = let_in local (access_kinds.Hit way next silent) after
  accessed local access_kinds.SecondaryMiss after = let_in local access_kinds.SecondaryMiss after
  accessed local (access_kinds.PrimaryMiss next ask placement) after =
      let_in local (access_kinds.PrimaryMiss next ask placement) after

  last : (decision : Decision) → AfterDecision decision old core request (Ok (issues.Done number)) new
      → number ≡ length old.view.log
  last (decisions.Refuse why) after = absurd (cc (after.0))
  last (decisions.Access local access) after = accessed local access after

  pub issued-last : AfterIssue old core request (Ok (issues.Done number)) new → number ≡ length old.view.log
  issued-last after = last (decision_of old.view core request) after
