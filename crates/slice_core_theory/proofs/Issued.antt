-- What is asked of a slice: a request that is done at once, one that waits, or none.
use Rattle.std.proofs.Common.{◌≡◌, ℕ, ◌/◌, ◌<◌, ◌⊎◌, Bool, List, [], ◌∷◌, length, Result, Ok, Err, refl, sym, ap, ◌∙◌}
use Rattle.std.proofs.Common.{subst, ⊎_elim, arith}
use Rattle.std.specs.Prelude.{slice_set}
use Rattle.std.proofs.lemmas.List.{length-set}
use Rattle.address_map.specs.Locator.{line_at}
use Rattle.address_map.specs.Place.{offset_of}
use Rattle.address_map.specs.declared.address.CoreId.{CoreId}
use Rattle.address_map.specs.declared.address.Local.{Local}
use Rattle.address_map.specs.declared.request.Request.{Request}
use Rattle.cache_table.specs.declared.state.CopyState.{CopyState}
use Rattle.mshr_file.specs.Miss.{AddsTarget}
use Rattle.mshr_file.specs.declared.registers.Register.{Register}
use Rattle.slice_answer.specs.declared.answer.Issue.{Issue}
use Rattle.slice_answer.specs.declared.answer.Issue.TheVariants as issues
use Rattle.slice_answer.specs.declared.answer.Refused.{Refused}
use Rattle.slice_core_cache.specs.CoreCache.{CoreCacheView, tag_at}
use Rattle.slice_core_cache.specs.Steps as caches
use Rattle.slice_core_cache.specs.declared.access.AccessKind.{AccessKind}
use Rattle.slice_core_cache.specs.declared.access.AccessKind.TheVariants as access_kinds
use Rattle.slice_core_cache.specs.declared.access.Ask.{Ask}
use Rattle.slice_core_cache.specs.declared.access.Placement.{Placement}
use Rattle.slice_core_cache.specs.declared.access.Placement.TheVariants as placements
use Rattle.slice_core_cache.specs.declared.tags.TagState.TheVariants as tag_states
use Rattle.slice_core_theory.proofs.Accepted.{Opens, accept_leads, opens-by}
use Rattle.slice_core_theory.proofs.Done.{done_leads}
use Rattle.slice_core_theory.proofs.MachineJudged.{IsJudged, hit-alone, judged}
use Rattle.slice_core_theory.proofs.Kept.{ShowsSame, kept-of, leads-same, same-view}
use Rattle.slice_core_theory.proofs.Requests.{word_at_offset}
use Rattle.slice_core_theory.specs.SmallMachine.{Asked, accept, hand, perform}
use Rattle.slice_core_theory.specs.Shows.{IsAccounted, Leads, request_of_target, issue_steps, next_of}
use Rattle.slice_core_spec.specs.Decision.{decision_of}
use Rattle.slice_core_spec.specs.Calls.{AfterDecision}
use Rattle.slice_core_spec.specs.Calls.{PartsView, target_for, AfterAccepting, AfterAccess, AfterIssue, IsAccepted}
use Rattle.slice_core_spec.specs.Calls.{LacksMemory}
use Rattle.slice_core_spec.specs.Steps.{after_hit, after_join, after_open, is_held, with_way}
use Rattle.slice_core_spec.specs.View.{View, first_word, cache_at}
use Rattle.slice_core_spec.specs.declared.decision.Decision.{Decision}
use Rattle.slice_core_spec.specs.declared.decision.Decision.TheVariants as decisions
use Rattle.slice_log.specs.Log.{IsLegal, initially}
use Rattle.target_list.specs.declared.target.Target.{Target}

-- ---- ways that a line takes

-- Whatever way a line takes, a slice shows the same.
way-shows : (v : View) (core : CoreId) (local : Local) (placement : Placement) → core.0 < length v.caches
    → ShowsSame v (with_way v core local placement)
way-shows v core local placements.Held known = same-view v
way-shows v core local placements.Free known = same-view v
way-shows v core local placements.Victim known =
    let cache = caches.after_replace (cache_at v core) local in record {
      lines = refl;
      init = refl;
      log = refl;
      misses = kept-of (λ (s : CoreCacheView). s.misses) v core cache known refl;
      tags = kept-of (λ (s : CoreCacheView). s.tags) v core cache known refl;
    }

way-known : (v : View) (core : CoreId) (local : Local) (placement : Placement) → core.0 < length v.caches
    → core.0 < length (with_way v core local placement).caches
way-known v core local placements.Held known = known
way-known v core local placements.Free known = known
way-known v core local placements.Victim known =
    let long = length-set v.caches core.0 (caches.after_replace (cache_at v core) local) in
    omega (arith, known, long)

-- ---- accesses

module _ (old : PartsView) (core : CoreId) (request : Request) (local : Local) (accounted : IsAccounted old.view)
    (known : core.0 < length old.view.caches) where
  abbrev next : Asked
  next = next_of old.view core request

  abbrev target : Target
  target = target_for old core request

  opens_open : (placement : Placement) (state : CopyState) (ask : Ask) (misses : List Register)
      → AddsTarget (cache_at old.view core).misses misses local.0 target
      → tag_at (cache_at old.view core) request.tag ≡ tag_states.Free
      → Opens old.view (after_open old.view core request local placement state ask misses) core local target
  opens_open placement state ask misses adds free =
      let then = with_way old.view core local placement in
      let shows = way-shows old.view core local placement known in
      let by =
      opens-by old.view then
      core (caches.after_open (cache_at then core) local (is_held placement) state request misses) local
      target shows (way-known old.view core local placement known) adds free
      (ap (λ states. slice_set states request.tag tag_states.Open) (shows.tags core)) in record {
        lines = by.lines;
        init = by.init;
        log = by.log;
        adds = by.adds;
        others = by.others;
        names = by.names;
      }

  -- The core's target is its request.
  target_is : request.word.0 / 8 ≡ (line_at old.view.lines local).0
      → request_of_target (first_word old.view local) core target ≡ next
  target_is on =
      ap (λ word. record {
        op = request.op;
        word = record { 0 = word };
        seq = (cache_at old.view core).accepted;
        since = length old.view.log;
        core = core;
        tag = request.tag;
      })
      (word_at_offset old.view local request.word.0 on)

  -- A request that became a target was accepted.
  pending : (view : View) → request.word.0 / 8 ≡ (line_at old.view.lines local).0
      → Opens old.view view core local target → Leads (accept next ∷ []) old.view view
  pending view on opens =
      subst (λ r. Leads (accept r ∷ []) old.view view) (target_is on)
      (accept_leads old.view view core local target accounted opens refl refl)

  -- A hit is done at once.
  hit : (way : ℕ) (state : CopyState) (silent : Bool)
      → IsJudged old.view core request local (access_kinds.Hit way state silent)
      → IsLegal (initially old.view.init) (after_hit old.view core request local state).log
      → Leads (accept next ∷ perform next ∷ hand (length old.view.log) ∷ []) old.view
      (after_hit old.view core request local state)
  hit way state silent judged legal =
      let cache = caches.after_hit (cache_at old.view core) local (offset_of request.word).0 request.op state in
      done_leads old.view (after_hit old.view core request local state) local _ accounted
      (record {
        lines = refl;
        init = refl;
        log = refl;
        misses = kept-of (λ (s : CoreCacheView). s.misses) old.view core cache known refl;
        tags = kept-of (λ (s : CoreCacheView). s.tags) old.view core cache known refl;
      }) refl refl judged.line
      (hit-alone (cache_at old.view core) local request.tag request.op way state silent judged.decided) legal

-- ---- the call

module _ (old : PartsView) (core : CoreId) (request : Request) (answer : Result Issue Refused) (new : PartsView)
    (accounted : IsAccounted old.view) (known : core.0 < length old.view.caches)
    (legal : IsLegal (initially old.view.init) new.view.log) where
  abbrev next_asked : Asked
  next_asked = next_of old.view core request

  -- the steps for an answer lead to a slice
  abbrev LeadsBy : Result Issue Refused → PartsView → Type 0
  LeadsBy given p = Leads (issue_steps next_asked given) old.view p.view

  leads_to : (given : Result Issue Refused) (p : PartsView) → answer ≡ given → new ≡ p → LeadsBy given p
      → LeadsBy answer new
  leads_to given p answered is leads =
      subst (λ a. LeadsBy a new) (sym answered) (subst (LeadsBy given) (sym is) leads)

  refused : (why : Refused) → answer ≡ Err why → new ≡ old → LeadsBy answer new
  refused why answered is = leads_to (Err why) old answered is (leads-same old.view old.view (same-view old.view))

  legal_at : (p : PartsView) → new ≡ p → IsLegal (initially old.view.init) p.view.log
  legal_at p is = subst (λ (q : PartsView). IsLegal (initially old.view.init) q.view.log) is legal

  accepted : (local : Local) (access : AccessKind) → IsJudged old.view core request local access → (room : ℕ)
      (issue : Issue) → answer ≡ Ok issue
      → AfterAccepting access (record old { room = room }) core request local issue new → LeadsBy answer new
  accepted local (access_kinds.Stall stall) is room issue answered done =
      leads_to (Ok (issues.Stall stall)) (record old { room = room })
      (answered ∙ ap (λ i. Ok i) done.0) done.1 (leads-same old.view old.view (same-view old.view))
  accepted local (access_kinds.Hit way state silent) is room issue answered done =
      leads_to (Ok (issues.Done (length old.view.log))) _ (answered ∙ ap (λ i. Ok i) done.0) done.1
      (hit old core request local accounted known way state silent is (legal_at _ done.1))
  accepted local access_kinds.SecondaryMiss is room issue answered done =
      let cache = caches.after_join (cache_at old.view core) request done.0 in
      leads_to (Ok (issues.Pending (cache_at old.view core).accepted)) _ (answered ∙ ap (λ i. Ok i) done.3.0) done.3.1
      (pending old core request local accounted known (after_join old.view core request done.0) is.line
      (opens-by old.view old.view core cache local (target_for old core request) (same-view old.view) known done.1
      is.free refl))
  accepted local (access_kinds.PrimaryMiss state ask way) is room issue answered done =
      leads_to (Ok (issues.Pending (cache_at old.view core).accepted)) _ (answered ∙ ap (λ i. Ok i) done.3.0) done.3.1
      (pending old core request local accounted known
      (after_open old.view core request local way state ask done.0) is.line
      (opens_open old core request local accounted known way state ask done.0 done.1 is.free))

  with_memory : (local : Local) (access : AccessKind) → IsJudged old.view core request local access
      → LacksMemory old answer new ⊎ IsAccepted access old core request local answer new → LeadsBy answer new
  with_memory local access is done =
      ⊎_elim (λ lacks. refused _ lacks.refused lacks.unchanged)
      (λ let_in. accepted local access is let_in.0 let_in.1 let_in.4 let_in.5) done

  accessed : (local : Local) (access : AccessKind) → IsJudged old.view core request local access
      → AfterAccess access old core request local answer new → LeadsBy answer new
  accessed local (access_kinds.Stall stall) is done =
      leads_to (Ok (issues.Stall stall)) _ done.0 done.1 (leads-same old.view old.view (same-view old.view))
  accessed local (access_kinds.Hit way state silent) is done =
      with_memory local (access_kinds.Hit way state silent) is done
  accessed local access_kinds.SecondaryMiss is done = with_memory local access_kinds.SecondaryMiss is done
  accessed local (access_kinds.PrimaryMiss state ask way) is done =
      with_memory local (access_kinds.PrimaryMiss state ask way) is done

  decided : (decision : Decision) → decision_of old.view core request ≡ decision
      → AfterDecision decision old core request answer new
      → LeadsBy answer new
  decided (decisions.Refuse why) is done = refused why done.0 done.1
  decided (decisions.Access local access) is done =
      accessed local access (judged old.view core request local access is) done

  pub issue_leads : AfterIssue old core request answer new → LeadsBy answer new
  issue_leads done = decided (decision_of old.view core request) refl done
