-- What each access keeps is kept by each call: a request, an eviction, and a reply that is handed out.
use Rattle.std.proofs.Common.{◌≡◌, ℕ, ◌<◌, ◌⊎◌, ◌/◌, ◌%◌, Bool, true, false, if◌then◌else◌, length, Option, Some, None}
use Rattle.std.proofs.Common.{Result, ⊎_elim, refl, sym, ap, ◌∙◌, subst}
use Rattle.std.specs.Prelude.{◌==◌, ◌&&◌, nat_lt, not}
use Rattle.std.proofs.lemmas.Bool.{and_parts, ltb-true}
use Rattle.address_map.specs.Locator.{Lines, is_past, local_at}
use Rattle.address_map.specs.Place.{line_of}
use Rattle.address_map.specs.declared.address.CoreId.{CoreId}
use Rattle.address_map.specs.declared.address.LineAddr.{LineAddr}
use Rattle.address_map.specs.declared.address.Local.{Local}
use Rattle.address_map.specs.declared.request.Request.{Request}
use Rattle.cache_array.specs.Array.{held_at as array_at}
use Rattle.slice_answer.specs.declared.answer.Evicted.{Evicted}
use Rattle.slice_answer.specs.declared.answer.Evicted.TheVariants as evictions
use Rattle.slice_answer.specs.declared.answer.Issue.{Issue}
use Rattle.slice_answer.specs.declared.answer.Refused.{Refused}
use Rattle.slice_answer.specs.declared.answer.Refused.TheVariants as refusals
use Rattle.slice_core_cache.proofs.Evictions.{can_leave}
use Rattle.slice_core_cache.specs.Access.{access_of, evicted_of}
use Rattle.slice_core_cache.specs.Copy.{may_leave}
use Rattle.slice_core_cache.specs.CoreCache.{tag_at}
use Rattle.slice_core_cache.specs.Tags.{is_free}
use Rattle.slice_core_cache.specs.declared.access.AccessKind.{AccessKind}
use Rattle.slice_core_cache.specs.declared.access.AccessKind.TheVariants as access_kinds
use Rattle.slice_core_cache.specs.declared.copy.CacheCopy.{CacheCopy}
use Rattle.slice_core_theory.proofs.Evictions.{passing}
use Rattle.slice_core_theory.proofs.Judged.{is_judged}
use Rattle.slice_core_theory.proofs.Steps.{KeepsAccesses}
use Rattle.slice_core_theory.proofs.Victims.{has_victim_for}
use Rattle.slice_core_theory.specs.Whole.{IsWhole}
use Rattle.slice_core_spec.specs.Decision.{decision_at, decision_of, is_counter, overwrites}
use Rattle.slice_core_spec.specs.Calls.{AfterDecision, AfterEvictAt, AfterEvicted}
use Rattle.slice_core_spec.specs.Calls.{PartsView, target_for, AfterAccepting, AfterAccess, AfterEvict, AfterHand}
use Rattle.slice_core_spec.specs.Calls.{AfterIssue, IsAccepted, LacksMemory}
use Rattle.slice_core_spec.specs.View.{View, cache_at}
use Rattle.slice_core_spec.specs.declared.decision.Decision.{Decision}
use Rattle.slice_core_spec.specs.declared.decision.Decision.TheVariants as decisions
use Rattle.slice_log.specs.declared.entry.Numbered.{Numbered}

-- A line that has a place among the slice's own is one of them.
pub located : (own : Lines) (line : ℕ) (local : Local) → local_at own line ≡ Some local → local.0 < own.lines
located own line local =
    by (line % own.slices == own.slice && nat_lt (line / own.slices) own.lines) (record { 0 = line / own.slices })
    (λ mine. ltb-true (line / own.slices) own.lines (and_parts _ _ mine).1)
  where
    by : (mine : Bool) (here : Local) → (mine ≡ true → here.0 < own.lines)
        → (if mine then Some here else None) ≡ Some local → local.0 < own.lines
    by true here inside is =
        let same : here ≡ local = cc in subst (λ (l : Local). l.0 < own.lines) same (inside refl)
    by false here inside is = absurd (cc is)

-- ---- requests

module _ (v : View) (core : CoreId) (request : Request) (local : Local) (access : AccessKind) where
  -- An access that was decided is to a line of the slice, and is as the core's state says.
  abbrev pub IsAccessTo : Type 0
  IsAccessTo =
      (local.0 < v.lines.lines) × (access_of (cache_at v core) local request.tag request.op ≡ access)
      × (local_at v.lines (line_of request.word).0 ≡ Some local)

  decided-line : (here : Local) → here.0 < v.lines.lines
      → local_at v.lines (line_of request.word).0 ≡ Some here → (range busy counter : Bool)
      → (if range then decisions.Refuse refusals.TagRange else if busy then decisions.Refuse refusals.TagBusy
      else if counter then decisions.Refuse refusals.CounterStore
      else decisions.Access here (access_of (cache_at v core) here request.tag request.op))
      ≡ decisions.Access local access → IsAccessTo
  decided-line here inside found true busy counter is = absurd (cc is)
  decided-line here inside found false true counter is = absurd (cc is)
  decided-line here inside found false false true is = absurd (cc is)
  decided-line here inside found false false false is =
      let same : here ≡ local = cc in
      let judged : access_of (cache_at v core) here request.tag request.op ≡ access = cc in (
        subst (λ (l : Local). l.0 < v.lines.lines) same inside,
        ap (λ l. access_of (cache_at v core) l request.tag request.op) (sym same) ∙ judged,
        found ∙ ap (λ (l : Local). Some l) same,
      )

  abbrev by_place : Option Local → Decision
  by_place None = decisions.Refuse refusals.WrongSlice
  by_place (Some here) = decision_at v core request here

  decided-place : (past : Bool) (place : Option Local) → local_at v.lines (line_of request.word).0 ≡ place
      → (if past then decisions.Refuse refusals.OutOfRange else by_place place) ≡ decisions.Access local access
      → IsAccessTo
  decided-place true place found is = absurd (cc is)
  decided-place false None found is = absurd (cc is)
  decided-place false (Some here) found is =
      decided-line here (located v.lines (line_of request.word).0 here found) found (not (nat_lt request.tag 64))
      (not (is_free (tag_at (cache_at v core) request.tag))) (overwrites request.op && is_counter v request.word) is

  pub decided : decision_of v core request ≡ decisions.Access local access → IsAccessTo
  decided is =
      decided-place (is_past v.lines request.word) (local_at v.lines (line_of request.word).0) refl is

module _ (Whole Fact : View → Type 0) (steps : KeepsAccesses Whole Fact) (old : PartsView) (core : CoreId)
    (request : Request) (answer : Result Issue Refused) (new : PartsView) (whole : IsWhole old.view)
    (more : Whole old.view) (known : core.0 < length old.view.caches) (all : Fact old.view) where
  unchanged : new ≡ old → Fact new.view
  unchanged same = subst (λ (p : PartsView). Fact p.view) (sym same) all

  -- An access that is accepted, where the log has room.
  accepted : (local : Local) (access : AccessKind) → IsAccessTo old.view core request local access → (room : ℕ)
      (issue : Issue) → AfterAccepting access (record old { room = room }) core request local issue new
      → Fact new.view
  accepted local (access_kinds.Stall stall) is room issue after =
      subst (λ (p : PartsView). Fact p.view) (sym after.1) all
  accepted local (access_kinds.Hit way next silent) is room issue after =
      let cache = cache_at old.view core in
      let row = is_judged cache local request.tag request.op (access_kinds.Hit way next silent) is.1 in
      subst (λ (p : PartsView). Fact p.view) (sym after.1)
      (steps.hit old.view core local request next more known is.0 is.2 row.0 row.1 all)
  accepted local access_kinds.SecondaryMiss is room issue after =
      let waits = is_judged (cache_at old.view core) local request.tag request.op access_kinds.SecondaryMiss is.1 in
      subst (λ (p : PartsView). Fact p.view) (sym after.3.1)
      (steps.join old.view core local request after.0 (target_for old core request) more known is.0 waits after.1 all)
  accepted local (access_kinds.PrimaryMiss next ask placement) is room issue after =
      let cache = cache_at old.view core in
      let kept = whole.kept core known in
      let row = is_judged cache local request.tag request.op (access_kinds.PrimaryMiss next ask placement) is.1 in
      let victim =
      has_victim_for old.view core local placement kept.array (λ other held. whole.own core other known held) row.1 in
      subst (λ (p : PartsView). Fact p.view) (sym after.3.1)
      (steps.opening old.view core local request placement next ask after.0 (target_for old core request) more known
      is.0
      row.1 victim row.0 after.1 all)

  -- Where an allocation for the log failed, nothing changed.
  with_memory : (local : Local) (access : AccessKind) → IsAccessTo old.view core request local access
      → LacksMemory old answer new ⊎ IsAccepted access old core request local answer new → Fact new.view
  with_memory local access is after =
      ⊎_elim (λ lacks. unchanged lacks.unchanged) (λ done. accepted local access is done.0 done.1 done.5) after

  accessed : (local : Local) (access : AccessKind) → IsAccessTo old.view core request local access
      → AfterAccess access old core request local answer new → Fact new.view
  accessed local (access_kinds.Stall stall) is after = subst (λ (p : PartsView). Fact p.view) (sym after.1) all
  accessed local (access_kinds.Hit way next silent) is after =
      with_memory local (access_kinds.Hit way next silent) is after
  accessed local access_kinds.SecondaryMiss is after = with_memory local access_kinds.SecondaryMiss is after
  accessed local (access_kinds.PrimaryMiss next ask placement) is after =
      with_memory local (access_kinds.PrimaryMiss next ask placement) is after

  issued : (decision : Decision) → decision_of old.view core request ≡ decision
      → AfterDecision decision old core request answer new
      → Fact new.view
  issued (decisions.Refuse refused) is after = unchanged after.1
  issued (decisions.Access local access) is after =
      accessed local access (decided old.view core request local access is) after

  -- A request keeps the fact.
  pub issue_keeps : AfterIssue old core request answer new → Fact new.view
  issue_keeps after = issued (decision_of old.view core request) refl after

-- ---- evictions

module _ (Whole Fact : View → Type 0) (steps : KeepsAccesses Whole Fact) (old : PartsView) (core : CoreId)
    (line : LineAddr) (answer : Evicted) (new : PartsView) (whole : IsWhole old.view) (more : Whole old.view)
    (known : core.0 < length old.view.caches) (all : Fact old.view) where
  stays : new ≡ old → Fact new.view
  stays same = subst (λ (p : PartsView). Fact p.view) (sym same) all

  answered : (local : Local) (given : Evicted) → given ≡ evicted_of (cache_at old.view core) local
      → AfterEvicted given old core local new → Fact new.view
  answered local evictions.Evicting is after =
      let cache = cache_at old.view core in
      let leaves = can_leave cache local (sym is) in
      let held = (passing (λ (c : CacheCopy). may_leave c.state) (array_at cache.array local) leaves.held).0 in
      subst (λ (p : PartsView). Fact p.view) (sym after)
      (steps.evict old.view core local more known (whole.own core local known held) leaves all)
  answered local evictions.Busy is after = stays after
  answered local evictions.NotHeld is after = stays after
  answered local evictions.WriteBackFull is after = stays after

  placed : (place : Option Local) → AfterEvictAt place old core answer new → Fact new.view
  placed None after = stays after.1
  placed (Some local) after = answered local answer after.0 after.1

  -- An eviction keeps the fact.
  pub evicted_keeps : AfterEvict old core line answer new → Fact new.view
  evicted_keeps after = placed (local_at old.view.lines line.0) after

-- ---- replies

-- A reply that is handed out keeps the fact.
pub handed_keeps : (Whole Fact : View → Type 0) → KeepsAccesses Whole Fact → (old : PartsView) (core : CoreId)
    (answer : Option Numbered) (new : PartsView) → core.0 < length old.view.caches → Fact old.view
    → AfterHand old core answer new → Fact new.view
handed_keeps Whole Fact steps old core None new known all after =
    subst (λ (p : PartsView). Fact p.view) (sym after.1) all
handed_keeps Whole Fact steps old core (Some given) new known all after =
    subst (λ (p : PartsView). Fact p.view) (sym after.3) (steps.hand old.view core after.0 known all)
