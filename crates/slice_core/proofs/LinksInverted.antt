-- Where a core's miss file is bounded by its tags alone, no request waits for a register or for a field of one.
use Rattle.std.proofs.Common.{◌≡◌, ℕ, ◌<◌, Bool, true, false, not, if◌then◌else◌, List, length, Option, Some, None}
use Rattle.std.proofs.Common.{is_some, IfSome, refl, sym, ap, ◌∙◌, subst, ⊎_elim}
use Rattle.std.specs.Prelude.{◌⊎◌, ◌==◌, Result, Ok}
use Rattle.address_map.specs.declared.address.CoreId.{CoreId}
use Rattle.address_map.specs.declared.address.Local.{Local}
use Rattle.address_map.specs.declared.request.Op.{Op}
use Rattle.address_map.specs.declared.request.Op.TheVariants as ops
use Rattle.address_map.specs.declared.request.Request.{Request}
use Rattle.cache_array.specs.Array.{held_at as array_at}
use Rattle.cache_table.specs.CopyState.{is_waiting}
use Rattle.cache_table.specs.Row.{row_of}
use Rattle.cache_table.specs.declared.row.CacheEvent.TheVariants as cache_events
use Rattle.cache_table.specs.declared.state.CopyState.{CopyState}
use Rattle.cache_table.specs.declared.state.CopyState.TheVariants as copy_states
use Rattle.mshr_file.specs.Miss.{Bound, admission_of, has_miss, is_free}
use Rattle.mshr_file.specs.declared.admission.Admission.{Admission}
use Rattle.mshr_file.specs.declared.admission.Admission.TheVariants as admissions
use Rattle.mshr_file.specs.declared.registers.Register.{Register}
use Rattle.slice_answer.specs.declared.answer.Issue.{Issue}
use Rattle.slice_answer.specs.declared.answer.Issue.TheVariants as issues
use Rattle.slice_answer.specs.declared.answer.Refused.{Refused}
use Rattle.slice_answer.specs.declared.answer.Stall.{Stall}
use Rattle.slice_answer.specs.declared.answer.Stall.TheVariants as stalls
use Rattle.slice_core_spec.specs.Decision.{decision_of}
use Rattle.slice_core_spec.specs.Calls.{AfterDecision}
use Rattle.slice_core_spec.specs.Calls.{PartsView, AfterAccepting, AfterAccess, AfterIssue, IsAccepted, LacksMemory}
use Rattle.slice_core_spec.specs.View.{cache_at}
use Rattle.slice_core_spec.specs.declared.decision.Decision.{Decision}
use Rattle.slice_core_spec.specs.declared.decision.Decision.TheVariants as decisions
use Rattle.slice_core_cache.specs.Access.{absent_by, access_of, alone_of, by_admission, event_of, has_buffer_room}
use Rattle.slice_core_cache.specs.Access.{has_victim}
use Rattle.slice_core_cache.specs.Access.{has_way, held_by, in_way}
use Rattle.slice_core_cache.specs.Copy.{found_in}
use Rattle.slice_core_cache.specs.Kept.{IsKept, stands_in_array}
use Rattle.slice_core_cache.specs.CoreCache.{CoreCacheView, state_of, tag_at}
use Rattle.slice_core_cache.specs.declared.access.AccessKind.{AccessKind}
use Rattle.slice_core_cache.specs.declared.access.AccessKind.TheVariants as access_kinds
use Rattle.slice_core_cache.specs.declared.access.Ask.{Ask}
use Rattle.slice_core_cache.specs.declared.access.Ask.TheVariants as asks
use Rattle.slice_core_cache.specs.declared.access.Placement.TheVariants as placements
use Rattle.slice_core_cache.specs.declared.copy.CacheCopy.{CacheCopy}
use Rattle.slice_core_cache.specs.declared.tags.TagState.{TagState}
use Rattle.slice_core_cache.specs.declared.tags.TagState.TheVariants as tag_states
use Rattle.slice_core_theory.specs.Standing.{is_open}
use Rattle.slice_core_theory.proofs.MachineJudged.{judged, IsJudged}
use Rattle.slice_core.specs.Facts.{IsInverted, NeedsNoRegister}
use Rattle.slice_core.specs.Sound.{HasAccounts, IsSound}
use Rattle.writeback_buffer.specs.Buffer.{held_at as buffer_at}
use Rattle.writeback_buffer.specs.declared.pending.Leaving.{Leaving}

-- the access waits for no register, and for no field of one
abbrev pub FindsRegister : AccessKind → Type 0
FindsRegister (access_kinds.Stall stalls.NoRegister) = ⊥
FindsRegister (access_kinds.Stall stalls.NoTarget) = ⊥
FindsRegister _ = Unit {0}

-- ---- a line that no access waits for

-- The table has a row for each access to a copy that is in the array and waits for nothing.
finds-rests : (cache : CoreCacheView) (local : Local) (state : CopyState) → stands_in_array state ≡ true
    → is_waiting state ≡ false
    → FindsRegister (held_by cache local true state (row_of state cache_events.Load))
    × FindsRegister (held_by cache local true state (row_of state cache_events.Write))
finds-rests cache local copy_states.S stands rests = (tt, tt)
finds-rests cache local copy_states.M stands rests = (tt, tt)
finds-rests cache local copy_states.E stands rests = (tt, tt)
finds-rests cache local _ stands rests = cc

finds-held : (cache : CoreCacheView) (local : Local) (state : CopyState) → stands_in_array state ≡ true
    → is_waiting state ≡ false → (op : Op)
    → FindsRegister (held_by cache local true state (row_of state (event_of op)))
finds-held cache local state stands rests ops.Load = (finds-rests cache local state stands rests).0
finds-held cache local state stands rests (ops.Store new) = (finds-rests cache local state stands rests).1
finds-held cache local state stands rests (ops.Add increment) = (finds-rests cache local state stands rests).1
finds-held cache local state stands rests (ops.Cas expect new) = (finds-rests cache local state stands rests).1

-- A line that is nowhere waits for a way or for the write-back buffer, if for anything.
finds-way : (cache : CoreCacheView) (local : Local) (next : CopyState) (ask : Ask)
    → FindsRegister (in_way cache local next ask)
finds-way cache local next ask = by (has_way cache local) (has_victim cache local) (has_buffer_room cache)
  where
    by : (way victim entry : Bool)
        → FindsRegister
        (if way then access_kinds.PrimaryMiss next ask placements.Free
        else if not victim then access_kinds.Stall stalls.NoWay
        else if not entry then access_kinds.Stall stalls.WriteBackFull
        else access_kinds.PrimaryMiss next ask placements.Victim)
    by true victim entry = tt
    by false false entry = tt
    by false true false = tt
    by false true true = tt

finds-absent : (cache : CoreCacheView) (local : Local) (op : Op)
    → FindsRegister (absent_by cache local true (row_of copy_states.I (event_of op)))
finds-absent cache local ops.Load = finds-way cache local copy_states.IS_D asks.GetS
finds-absent cache local (ops.Store new) = finds-way cache local copy_states.IM_AD asks.GetM
finds-absent cache local (ops.Add increment) = finds-way cache local copy_states.IM_AD asks.GetM
finds-absent cache local (ops.Cas expect new) = finds-way cache local copy_states.IM_AD asks.GetM

module _ (cache : CoreCacheView) (local : Local) (op : Op) (kept : IsKept cache) where
  finds-alone : is_waiting (state_of cache local) ≡ false → FindsRegister (alone_of cache local true op)
  finds-alone rests = by (array_at cache.array local) refl
    where
      nowhere : (leaving : Option Leaving)
          → FindsRegister
          (if is_some leaving then access_kinds.Stall stalls.WriteBackBusy
          else absent_by cache local true (row_of copy_states.I (event_of op)))
      nowhere (Some leaving) = tt
      nowhere None = finds-absent cache local op

      by : (held : Option CacheCopy) → array_at cache.array local ≡ held
          → FindsRegister (alone_of cache local true op)
      by (Some copy) is =
          let stands = subst (λ (o : Option CacheCopy). IfSome o (λ copy. stands_in_array copy.state ≡ true)) is
          (kept.held local) in
          let state = ap (λ o. is_waiting (found_in o (buffer_at cache.buffer.write_backs local.0)).state) (sym is) in
          rw is (finds-held cache local copy.state stands (state ∙ rests) op)
      by None is = rw is (nowhere (buffer_at cache.buffer.write_backs local.0))

  -- ---- an access under a free tag

  -- Bounded by tags alone, a file admits a tag that is free: to the line's register, or to one of its own.
  admits-free : (misses : List Register) (line tag : ℕ) → is_free misses tag ≡ true
      → admission_of Bound.tags misses line tag
      ≡ (if has_miss misses line then admissions.Join else admissions.Open)
  admits-free misses line tag free = rw free refl

  finds-access : (tag : ℕ) → cache.bound ≡ Bound.tags → is_free cache.misses tag ≡ true
      → is_waiting (state_of cache local) ≡ has_miss cache.misses local.0
      → FindsRegister (access_of cache local tag op)
  finds-access tag inverted free waits =
      let admission = ap (λ bound. admission_of bound cache.misses local.0 tag) inverted
      ∙ admits-free cache.misses local.0 tag free in
      subst (λ (a : Admission). FindsRegister (by_admission cache local op a)) (sym admission)
      (by (has_miss cache.misses local.0) refl)
    where
      by : (missed : Bool) → has_miss cache.misses local.0 ≡ missed
          → FindsRegister (by_admission cache local op (if missed then admissions.Join else admissions.Open))
      by true one = tt
      by false none = finds-alone (waits ∙ none)

-- ---- the call

-- No target has a tag that names nothing.
free-unused : (old : PartsView) (core : CoreId) (tag : ℕ) → HasAccounts old.view → core.0 < length old.view.caches
    → tag_at (cache_at old.view core) tag ≡ tag_states.Free → is_free (cache_at old.view core).misses tag ≡ true
free-unused old core tag has known free =
    let none = (has.accounts core known).tags.opened tag
    ∙ ap (λ (state : TagState). if is_open state then 1 else 0) free in
    ap (λ count. count == 0) none

-- An answer is what the access was.
needs-stall : (stall : Stall) → FindsRegister (access_kinds.Stall stall) → NeedsNoRegister (Ok (issues.Stall stall))
needs-stall stalls.NoRegister finds = finds
needs-stall stalls.NoTarget finds = finds
needs-stall stalls.NoWay finds = tt
needs-stall stalls.WriteBackFull finds = tt
needs-stall stalls.WriteBackBusy finds = tt

module _ (old : PartsView) (core : CoreId) (request : Request) (answer : Result Issue Refused) (new : PartsView) where
  -- where the log has room, all but a stall is accepted
  needs-accepted : (access : AccessKind) (local : Local) (room : ℕ) (issue : Issue) → FindsRegister access
      → AfterAccepting access (record old { room = room }) core request local issue new
      → NeedsNoRegister (Ok issue)
  needs-accepted (access_kinds.Stall stall) local room issue finds after =
      subst (λ (i : Issue). NeedsNoRegister (Ok i)) (sym after.0) (needs-stall stall finds)
  needs-accepted (access_kinds.Hit way next silent) local room issue finds after =
      subst (λ (i : Issue). NeedsNoRegister (Ok i)) (sym after.0) tt
  needs-accepted access_kinds.SecondaryMiss local room issue finds after =
      subst (λ (i : Issue). NeedsNoRegister (Ok i)) (sym after.3.0) tt
  needs-accepted (access_kinds.PrimaryMiss next ask placement) local room issue finds after =
      subst (λ (i : Issue). NeedsNoRegister (Ok i)) (sym after.3.0) tt

  needs-memory : (access : AccessKind) (local : Local) → FindsRegister access
      → LacksMemory old answer new ⊎ IsAccepted access old core request local answer new → NeedsNoRegister answer
  needs-memory access local finds after =
      ⊎_elim (λ lacks. subst NeedsNoRegister (sym lacks.refused) tt)
      (λ done. subst NeedsNoRegister (sym done.4) (needs-accepted access local done.0 done.1 finds done.5)) after

  needs-access : (access : AccessKind) (local : Local) → FindsRegister access
      → AfterAccess access old core request local answer new → NeedsNoRegister answer
  needs-access (access_kinds.Stall stall) local finds after =
      subst NeedsNoRegister (sym after.0) (needs-stall stall finds)
  needs-access (access_kinds.Hit way next silent) local finds after =
      needs-memory (access_kinds.Hit way next silent) local finds after
  needs-access access_kinds.SecondaryMiss local finds after = needs-memory access_kinds.SecondaryMiss local finds after
  needs-access (access_kinds.PrimaryMiss next ask placement) local finds after =
      needs-memory (access_kinds.PrimaryMiss next ask placement) local finds after

  -- An issue waits for no register where the core's file is bounded by tags alone.
  pub needs-issue : IsSound old → core.0 < length old.view.caches → IsInverted old.view core
      → AfterIssue old core request answer new → NeedsNoRegister answer
  needs-issue sound known inverted after = decided (decision_of old.view core request) refl after
    where
      finds : (local : Local) (access : AccessKind) → IsJudged old.view core request local access → FindsRegister access
      finds local access judged =
          subst FindsRegister judged.decided
          (finds-access (cache_at old.view core) local request.op (sound.links.kept core known) request.tag inverted
          (free-unused old core request.tag sound.accounts known judged.free)
          (sound.links.waits core local known))

      decided : (decision : Decision) → decision_of old.view core request ≡ decision
          → AfterDecision decision old core request answer new
          → NeedsNoRegister answer
      decided (decisions.Refuse refused) is after = subst NeedsNoRegister (sym after.0) tt
      decided (decisions.Access local access) is after =
          needs-access access local (finds local access (judged old.view core request local access is)) after
