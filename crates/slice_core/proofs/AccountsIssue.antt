-- Counts and accounts after an issue.
use Rattle.std.proofs.Common.{◌≡◌, ℕ, ◌+◌, ◌%◌, ◌^◌, ◌<◌, ◌≤◌, Bool, List, length, refl, sym, ap, subst, ⊎_elim, arith}
use Rattle.std.specs.Prelude.{◌⊎◌, slice_set, Result}
use Rattle.std.proofs.lemmas.List.{length-set}
use Rattle.address_map.specs.Place.{offset_of}
use Rattle.address_map.specs.declared.address.CoreId.{CoreId}
use Rattle.address_map.specs.declared.address.Local.{Local}
use Rattle.address_map.specs.declared.request.Request.{Request}
use Rattle.cache_table.specs.declared.state.CopyState.{CopyState}
use Rattle.mshr_file.specs.Miss.{AddsTarget, IsMissFile}
use Rattle.mshr_file.specs.declared.registers.Register.{Register}
use Rattle.slice_answer.specs.Stats.{after_eviction, after_hit as hit_counted, after_primary, after_secondary}
use Rattle.slice_answer.specs.declared.answer.Issue.{Issue}
use Rattle.slice_answer.specs.declared.answer.Refused.{Refused}
use Rattle.slice_core_spec.specs.Decision.{decision_of}
use Rattle.slice_core_spec.specs.Calls.{AfterDecision}
use Rattle.slice_core_spec.specs.Calls.{PartsView, opened_stats, target_for, AfterAccepting, AfterAccess, AfterIssue}
use Rattle.slice_core_spec.specs.Calls.{IsAccepted, LacksMemory}
use Rattle.slice_core_spec.specs.Steps.{after_hit, after_join, after_open, after_opening, after_request, is_held}
use Rattle.slice_core_spec.specs.Steps.{request_of, with_way}
use Rattle.slice_core_spec.specs.View.{channels_at, cache_at, with_cache}
use Rattle.slice_core_spec.specs.declared.decision.Decision.{Decision}
use Rattle.slice_core_spec.specs.declared.decision.Decision.TheVariants as decisions
use Rattle.slice_core_cache.specs.CoreCache.{CoreCacheView, array_copy, tag_at}
use Rattle.slice_core_cache.specs.Steps as caches
use Rattle.slice_core_cache.specs.declared.access.AccessKind.{AccessKind}
use Rattle.slice_core_cache.specs.declared.access.AccessKind.TheVariants as access_kinds
use Rattle.slice_core_cache.specs.declared.access.Ask.{Ask}
use Rattle.slice_core_cache.specs.declared.access.Placement.{Placement}
use Rattle.slice_core_cache.specs.declared.access.Placement.TheVariants as placements
use Rattle.slice_core_cache.specs.declared.tags.TagState.TheVariants as tag_states
use Rattle.slice_core_theory.proofs.MachineJudged.{hit-alone, judged, IsJudged}
use Rattle.slice_core.proofs.AccountsKept.{HasSame, Keeps, counts-before, keeps-added, keeps-hit, keeps-posted}
use Rattle.slice_core.proofs.AccountsKept.{keeps-cache, keeps-ring}
use Rattle.slice_core.proofs.CountedLines.{cores-sent}
use Rattle.slice_core.proofs.CountedStats.{accepted-within, counts-eviction, counts-hit, counts-primary}
use Rattle.slice_core.proofs.CountedStats.{counts-secondary, same-none, same-stall}
use Rattle.slice_core.proofs.CountedSteps.{after_step, shaped-channels, cache-here}
use Rattle.slice_queues.specs.declared.channel.Channel.TheVariants as channels
use Rattle.slice_queues.specs.declared.message.Message.TheVariants as messages
use Rattle.slice_queues.specs.declared.message.RequestMessage.{RequestMessage}
use Rattle.target_list.specs.declared.target.Target.{Target}

-- A request that a core sends changes neither counts nor accounts.
pub keeps-request : (p : PartsView) (core : CoreId) (local : Local) (message : RequestMessage) → Keeps p
    → Keeps (record p { view = after_request p.view core local message })
keeps-request p core local message keeps =
    keeps-posted p (after_request p.view core local message) p.stats refl refl refl (same-none p)
    (shaped-channels p.view local _
    (cores-sent (channels_at p.view local) (channels.Req core) (messages.Request message)) keeps.counted.shaped) keeps

-- A line's copy leaves.
pub keeps-leaving : (p : PartsView) (core : CoreId) (cache : CoreCacheView) (line : Local) (message : RequestMessage)
    → core.0 < length p.view.caches → HasSame (cache_at p.view core) cache → Keeps p
    → Keeps (record p {
      view = after_request (with_cache p.view core cache) core line message;
      stats = after_eviction p.stats core;
    })
keeps-leaving p core cache line message known same keeps =
    let before = counts-before p core keeps.counted known in
    keeps-request (record p { view = with_cache p.view core cache; stats = after_eviction p.stats core }) core line
    message
    (keeps-cache p core cache (after_eviction p.stats core) known same
    (counts-eviction p core before.0 (cache_at p.view core).accepted before.1) keeps)

-- ---- accepted accesses

-- the target is the core's next request
record IsTarget (p : PartsView) (core : CoreId) (request : Request) (target : Target) : Type 0 where
  pub word : target.offset.0 < 8
  pub tag : target.tag ≡ request.tag
  pub next : target.seq ≡ (cache_at p.view core).accepted
  pub now : target.since ≡ length p.view.log

own-target : (p : PartsView) (core : CoreId) (request : Request) → IsTarget p core request (target_for p core request)
own-target p core request = record { word = place-within request.word.0; tag = refl; next = refl; now = refl }
  where
    -- a word is in one of eight places of its line
    place-within : (word : ℕ) → word % 8 < 8
    place-within word = omega arith

module _ (p : PartsView) (core : CoreId) (request : Request) (local : Local) (room : ℕ)
    (keeps : Keeps p) (known : core.0 < length p.view.caches)
    (fits : length p.view.log + p.pending + 1 ≤ room) (bound : room < 2 ^ 63) where
  hit : (way : ℕ) (next : CopyState) (silent : Bool)
      → IsJudged p.view core request local (access_kinds.Hit way next silent)
      → Keeps (record p {
        view = after_hit p.view core request local next;
        stats = hit_counted p.stats core silent;
        room = room;
      })
  hit way next silent judged =
      let before = counts-before p core keeps.counted known in
      let small = accepted-within p core keeps.counted keeps.accounts known in
      keeps-hit p core (caches.after_hit (cache_at p.view core) local (offset_of request.word).0 request.op next) _
      local
      (hit_counted p.stats core silent) room known refl refl refl judged.line
      (hit-alone (cache_at p.view core) local request.tag request.op way next silent judged.decided) refl refl refl
      fits bound (counts-hit p core before.0 (cache_at p.view core).accepted before.1 silent small) keeps

  join : (misses : List Register) (target : Target)
      → AddsTarget (cache_at p.view core).misses misses local.0 target → IsMissFile misses
      → IsTarget p core request target
      → request.tag < 64 → tag_at (cache_at p.view core) request.tag ≡ tag_states.Free
      → Keeps (record p {
        view = after_join p.view core request misses;
        stats = after_secondary p.stats core;
        pending = p.pending + 1;
        room = room;
      })
  join misses target adds file is small free =
      let before = counts-before p core keeps.counted known in
      let least = accepted-within p core keeps.counted keeps.accounts known in
      keeps-added p core (caches.after_join (cache_at p.view core) request misses) local.0 target
      (after_secondary p.stats core) room known adds file is.word (rw is.tag small) is.next is.now (rw is.tag free)
      (ap (λ t. slice_set (cache_at p.view core).tags t tag_states.Open) (sym is.tag)) refl fits bound
      (counts-secondary p core before.0 (cache_at p.view core).accepted before.1 least) keeps

  opening : (held : Bool) (next : CopyState) (ask : Ask) (misses : List Register) (target : Target)
      → AddsTarget (cache_at p.view core).misses misses local.0 target → IsMissFile misses
      → IsTarget p core request target
      → request.tag < 64 → tag_at (cache_at p.view core) request.tag ≡ tag_states.Free
      → Keeps (record p {
        view = after_opening p.view core request local held next ask misses;
        stats = after_primary p.stats core;
        pending = p.pending + 1;
        room = room;
      })
  opening held next ask misses target adds file is small free =
      let before = counts-before p core keeps.counted known in
      let least = accepted-within p core keeps.counted keeps.accounts known in
      let cache = caches.after_open (cache_at p.view core) local held next request misses in
      keeps-request
      (after_step p core cache p.view.log (after_primary p.stats core) (p.pending + 1) room) core local (request_of ask)
      (keeps-added p core cache local.0 target
      (after_primary p.stats core) room known adds file is.word (rw is.tag small) is.next is.now (rw is.tag free)
      (ap (λ t. slice_set (cache_at p.view core).tags t tag_states.Open) (sym is.tag)) refl fits bound
      (counts-primary p core before.0 (cache_at p.view core).accepted before.1 least) keeps)

-- A register was opened, in whatever way.
opened : (p : PartsView) (core : CoreId) (request : Request) (local : Local) (room : ℕ) (placement : Placement)
    (next : CopyState)
    (ask : Ask) (misses : List Register)
    → Keeps p → core.0 < length p.view.caches → length p.view.log + p.pending + 1 ≤ room → room < 2 ^ 63
    → AddsTarget (cache_at p.view core).misses misses local.0 (target_for p core request) → IsMissFile misses
    → request.tag < 64 → tag_at (cache_at p.view core) request.tag ≡ tag_states.Free
    → Keeps (record p {
      view = after_open p.view core request local placement next ask misses;
      stats = opened_stats p.stats core placement;
      pending = p.pending + 1;
      room = room;
    })
opened p core request local room placements.Held next ask misses keeps known fits bound adds file small free =
    opening p core request local room keeps known fits bound (is_held placements.Held) next ask misses
    (target_for p core request) adds file (own-target p core request) small free
opened p core request local room placements.Free next ask misses keeps known fits bound adds file small free =
    opening p core request local room keeps known fits bound (is_held placements.Free) next ask misses
    (target_for p core request) adds file (own-target p core request) small free
opened p core request local room placements.Victim next ask misses keeps known fits bound adds file small free =
    let cache = cache_at p.view core in
    let now = caches.after_replace cache local in
    let victim = caches.victim_for cache local in
    let one = keeps-leaving p core now victim (caches.put_of (array_copy cache victim)) known
    (record { misses = refl; tags = refl; accepted = refl }) keeps in
    let there = cache-here p.view core now known core refl in
    let long = length-set p.view.caches core.0 now in
    let target = target_for p core request in
    opening
    (record p { view = with_way p.view core local placements.Victim; stats = after_eviction p.stats core })
    core request local room one (omega (arith, known, long)) fits bound (is_held placements.Victim) next ask misses
    target (subst (λ (s : CoreCacheView). AddsTarget s.misses misses local.0 target) (sym there) adds) file (record {
      word = (own-target p core request).word;
      tag = refl;
      next = ap (λ (s : CoreCacheView). s.accepted) (sym there);
      now = refl;
    }) small
    (subst (λ (s : CoreCacheView). tag_at s request.tag ≡ tag_states.Free) (sym there) free)

-- ---- the call

module _ (old : PartsView) (core : CoreId) (request : Request) (answer : Result Issue Refused) (new : PartsView)
    (keeps : Keeps old) (known : core.0 < length old.view.caches) (bound : new.room < 2 ^ 63) where
  unchanged : new ≡ old → Keeps new
  unchanged same = subst Keeps (sym same) keeps

  accepted : (local : Local) (access : AccessKind) → IsJudged old.view core request local access
      → (room : ℕ) (issue : Issue)
      → length old.view.log + old.pending + 1 ≤ room
      → AfterAccepting access (record old { room = room }) core request local issue new → Keeps new
  accepted local (access_kinds.Stall stall) judged room issue fits after =
      subst Keeps (sym after.1) (grown room fits (rw after.1 at bound))
    where
      grown : (room : ℕ) → length old.view.log + old.pending + 1 ≤ room → room < 2 ^ 63
          → Keeps (record old { room = room })
      grown room fits small = record {
        counted = record {
          shaped = keeps.counted.shaped;
          machine = keeps.counted.machine;
          some_core = keeps.counted.some_core;
          cores = keeps.counted.cores;
          stats = keeps.counted.stats;
          pending = keeps.counted.pending;
          room = omega (arith, fits);
          bounded = small;
          accepted = keeps.counted.accepted;
        };
        accounts = keeps.accounts;
      }
  accepted local (access_kinds.Hit way next silent) judged room issue fits after =
      let small = ap (λ (p : PartsView). p.room) after.1 in
      subst Keeps (sym after.1)
      (hit old core request local room keeps known fits (omega (arith, bound, small)) way next silent judged)
  accepted local access_kinds.SecondaryMiss judged room issue fits after =
      let small = ap (λ (p : PartsView). p.room) after.3.1 in
      subst Keeps (sym after.3.1)
      (join old core request local room keeps known fits (omega (arith, bound, small)) after.0
      (target_for old core request) after.1 after.2 (own-target old core request) judged.tag judged.free)
  accepted local (access_kinds.PrimaryMiss next ask placement) judged room issue fits after =
      let small = ap (λ (p : PartsView). p.room) after.3.1 in
      subst Keeps (sym after.3.1)
      (keeps-ring _ _
      (opened old core request local room placement next ask after.0 keeps known fits (omega (arith, bound, small))
      after.1
      after.2 judged.tag judged.free))

  with_memory : (local : Local) (access : AccessKind) → IsJudged old.view core request local access
      → LacksMemory old answer new ⊎ IsAccepted access old core request local answer new → Keeps new
  with_memory local access judged after =
      ⊎_elim (λ lacks. unchanged lacks.unchanged)
      (λ done. accepted local access judged done.0 done.1 done.3 done.5) after

  accessed : (local : Local) (access : AccessKind) → IsJudged old.view core request local access
      → AfterAccess access old core request local answer new → Keeps new
  accessed local (access_kinds.Stall stall) judged after =
      let before = counts-before old core keeps.counted known in
      subst Keeps (sym after.1)
      (keeps-posted old old.view _ refl refl refl
      (same-stall old core before.0 (cache_at old.view core).accepted before.1 stall) keeps.counted.shaped keeps)
  accessed local (access_kinds.Hit way next silent) judged after =
      with_memory local (access_kinds.Hit way next silent) judged after
  accessed local access_kinds.SecondaryMiss judged after = with_memory local access_kinds.SecondaryMiss judged after
  accessed local (access_kinds.PrimaryMiss next ask placement) judged after =
      with_memory local (access_kinds.PrimaryMiss next ask placement) judged after

  decided : (decision : Decision) → decision_of old.view core request ≡ decision
      → AfterDecision decision old core request answer new → Keeps new
  decided (decisions.Refuse refused) is after = unchanged after.1
  decided (decisions.Access local access) is after =
      accessed local access (judged old.view core request local access is) after

  pub keeps-issue : AfterIssue old core request answer new → Keeps new
  keeps-issue after = decided (decision_of old.view core request) refl after
