-- A miss for which a line has to leave: the core's write-back buffer takes the victim in last.
use Rattle.std.proofs.Common.{◌≡◌, ℕ, ◌<◌, ◌-◌, List, [], ◌∷◌, ◌++◌, length, map, slice_get, Some, Result, Ok}
use Rattle.std.proofs.Common.{refl, sym, ap, subst, ◌∙◌, arith, ⊎_elim, length-append, length-set}
use Rattle.std.specs.Prelude.{◌⊎◌, false}
use Rattle.std.proofs.lemmas.List.{get_or-set_same, map-append}
use Rattle.address_map.specs.Locator.{Lines, line_at}
use Rattle.address_map.specs.declared.address.CoreId.{CoreId}
use Rattle.address_map.specs.declared.address.LineAddr.{LineAddr}
use Rattle.address_map.specs.declared.address.Local.{Local}
use Rattle.address_map.specs.declared.request.Request.{Request}
use Rattle.cache_table.specs.declared.state.CopyState.{CopyState}
use Rattle.mshr_file.specs.declared.registers.Register.{Register}
use Rattle.slice_answer.specs.declared.answer.Issue.{Issue}
use Rattle.slice_answer.specs.declared.answer.Issue.TheVariants as issues
use Rattle.slice_answer.specs.declared.answer.Refused.{Refused}
use Rattle.slice_core.specs.Facts.{LeavesVictim}
use Rattle.slice_core_cache.specs.CoreCache.{CoreCacheView, array_copy, leaving_lines}
use Rattle.slice_core_cache.specs.Steps as caches
use Rattle.slice_core_cache.specs.Steps.{victim_for}
use Rattle.slice_core_cache.specs.declared.access.AccessKind.TheVariants as access_kinds
use Rattle.slice_core_cache.specs.declared.access.Ask.{Ask}
use Rattle.slice_core_cache.specs.declared.access.Placement.{Placement}
use Rattle.slice_core_cache.specs.declared.access.Placement.TheVariants as placements
use Rattle.slice_core_spec.specs.Decision.{decision_of}
use Rattle.slice_core_spec.specs.Calls.{PartsView, AfterAccess, AfterIssue, IsAccepted, LacksMemory, AfterDecision}
use Rattle.slice_core_spec.specs.Steps.{after_open, with_way}
use Rattle.slice_core_spec.specs.View.{View, no_cache, cache_at}
use Rattle.slice_core_spec.specs.declared.decision.Decision.{Decision}
use Rattle.slice_core_spec.specs.declared.decision.Decision.TheVariants as decisions
use Rattle.slice_core_exec.specs.CoreLines.{last_written_back}
use Rattle.writeback_buffer.specs.declared.pending.PendingWriteBack.{PendingWriteBack}

-- what was put after others is the last
behind : {X : Type 0} (xs : List X) (x : X) → slice_get (xs ++ x ∷ []) (length xs) ≡ Some x
behind [] x = refl
behind (y ∷ xs) x = behind xs x

last_behind : {X : Type 0} (xs : List X) (x : X) → slice_get (xs ++ x ∷ []) (length (xs ++ x ∷ []) - 1) ≡ Some x
last_behind xs x =
    let all = length-append xs (x ∷ []) in
    let long : length (xs ++ x ∷ []) - 1 ≡ length xs = omega (arith, all) in
    subst (λ n. slice_get (xs ++ x ∷ []) n ≡ Some x) (sym long) (behind xs x)

-- the line at the last of some places
last_line : (lines : Lines) (places : List Local) (last : Local)
    → slice_get (map (line_at lines) (places ++ last ∷ [])) (length (map (line_at lines) (places ++ last ∷ [])) - 1)
    ≡ Some (line_at lines last)
last_line lines places last =
    ap (λ (all : List LineAddr). slice_get all (length all - 1)) (map-append (line_at lines) places (last ∷ []))
    ∙ last_behind (map (line_at lines) places) (line_at lines last)

-- the buffer of a core in which a victim has left for a line
leaves_last : (cache : CoreCacheView) (local : Local)
    → leaving_lines (caches.after_replace cache local) ≡ leaving_lines cache ++ victim_for cache local ∷ []
leaves_last cache local =
    let victim = victim_for cache local in
    let drawn = caches.after_draw cache in
    map-append (λ (entry : PendingWriteBack). entry.line) cache.buffer.write_backs
    (record { leaving = caches.leaving_after_evict (array_copy drawn victim); line = record { 0 = victim.0 } } ∷ [])

module _ (old : View) (core : CoreId) (request : Request) (local : Local) (next : CopyState) (ask : Ask)
    (misses : List Register) (known : core.0 < length old.caches) where
  abbrev victim : Local
  victim = victim_for (cache_at old core) local

  -- the victim has left, and the miss has its register
  leaving_now : leaving_lines (cache_at (after_open old core request local placements.Victim next ask misses) core)
      ≡ leaving_lines (cache_at old core) ++ victim ∷ []
  leaving_now =
      let cache = cache_at old core in
      let way = with_way old core local placements.Victim in
      let left = caches.after_replace cache local in
      let opened = caches.after_open (cache_at way core) local false next request misses in
      let there : cache_at way core ≡ left = get_or-set_same old.caches core.0 left no_cache known in
      let long = length-set old.caches core.0 left in
      let then : cache_at (after_open old core request local placements.Victim next ask misses) core ≡ opened =
      get_or-set_same way.caches core.0 opened no_cache (omega (arith, known, long)) in
      ap leaving_lines then ∙ ap leaving_lines there ∙ leaves_last cache local

  victim_last : (new : View) → new ≡ after_open old core request local placements.Victim next ask misses
      → last_written_back new core ≡ Some (line_at old.lines victim)
  victim_last new is =
      ap (λ (v : View). last_written_back v core) is
      ∙ ap (λ (places : List Local). slice_get (map (line_at old.lines) places)
      (length (map (line_at old.lines) places) - 1)) leaving_now
      ∙ last_line old.lines (leaving_lines (cache_at old core)) victim

module _ (old : PartsView) (core : CoreId) (request : Request) (answer : Result Issue Refused) (new : PartsView)
    (known : core.0 < length old.view.caches) where
  abbrev Leaves : Decision → Result Issue Refused → Type 0
  Leaves decision given = LeavesVictim decision old.view core given new.view

  left_for : (local : Local) (next : CopyState) (ask : Ask)
      → LacksMemory old answer new
      ⊎ IsAccepted (access_kinds.PrimaryMiss next ask placements.Victim) old core request local answer new
      → Leaves (decisions.Access local (access_kinds.PrimaryMiss next ask placements.Victim)) answer
  left_for local next ask after =
      let decision : Decision = decisions.Access local (access_kinds.PrimaryMiss next ask placements.Victim) in
      ⊎_elim
      (λ lacks. subst (Leaves decision) (sym lacks.refused) tt)
      (λ done.
      let made = done.5.3 in
      subst (Leaves decision) (sym done.4)
      (subst (λ (issue : Issue). Leaves decision (Ok issue)) (sym made.0)
      (victim_last old.view core request local next ask done.5.0 known new.view
      (ap (λ (p : PartsView). p.view) made.1))))
      after

  opened : (local : Local) (next : CopyState) (ask : Ask) (placement : Placement)
      → AfterAccess (access_kinds.PrimaryMiss next ask placement) old core request local answer new
      → Leaves (decisions.Access local (access_kinds.PrimaryMiss next ask placement)) answer
  opened local next ask placements.Held after = tt
  opened local next ask placements.Free after = tt
  opened local next ask placements.Victim after = left_for local next ask after

  decided : (decision : Decision) → AfterDecision decision old core request answer new → Leaves decision answer
  decided (decisions.Refuse refused) after = tt
  decided (decisions.Access local (access_kinds.Stall stall)) after = tt
  decided (decisions.Access local (access_kinds.Hit way next silent)) after = tt
  decided (decisions.Access local access_kinds.SecondaryMiss) after = tt
  decided (decisions.Access local (access_kinds.PrimaryMiss next ask placement)) after =
      opened local next ask placement after

  -- Where a line has to leave for the request, the victim is what the core's write-back buffer took in last.
  pub leaves_victim : AfterIssue old core request answer new → LeavesVictim (decision_of old.view core request)
      old.view core answer new.view
  leaves_victim after = decided (decision_of old.view core request) after

  -- The victim of a primary miss is what the core's write-back buffer took in last.
  pub victim_left_last : (local : Local) (next : CopyState) (ask : Ask) (seq : ℕ)
      → decision_of old.view core request
      ≡ decisions.Access local (access_kinds.PrimaryMiss next ask placements.Victim)
      → answer ≡ Ok (issues.Pending seq) → AfterIssue old core request answer new
      → last_written_back new.view core ≡ Some (line_at old.view.lines (victim_for (cache_at old.view core) local))
  victim_left_last local next ask seq is says after =
      let decision : Decision = decisions.Access local (access_kinds.PrimaryMiss next ask placements.Victim) in
      subst (Leaves decision) says (subst (λ (d : Decision). Leaves d answer) is (leaves_victim after))
