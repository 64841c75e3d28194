-- Counts and accounts together, after each kind of step.
use Rattle.std.proofs.Common.{◌≡◌, ℕ, ◌+◌, ◌-◌, ◌*◌, ◌/◌, ◌^◌, ◌<◌, ◌≤◌, false, List, [], ◌∷◌, ◌++◌, length, refl, sym}
use Rattle.std.proofs.Common.{ap, arith}
use Rattle.std.specs.Prelude.{slice_set, All}
use Rattle.std.proofs.lemmas.List.{length-append, length_push}
use Rattle.std.proofs.lemmas.List.Elements.{All-cons, All-nil}
use Rattle.address_map.specs.Locator.{line_at}
use Rattle.address_map.specs.declared.address.CoreId.{CoreId}
use Rattle.address_map.specs.declared.address.Local.{Local}
use Rattle.address_map.specs.declared.block.Block.{Block}
use Rattle.mshr_file.specs.Miss.{has_miss, AddsTarget, IsMissFile, TakesTargets}
use Rattle.slice_answer.specs.Stats.{StatsView, accepted_of, counts_of}
use Rattle.slice_log.specs.declared.entry.Entry.{Entry}
use Rattle.slice_core_spec.specs.Calls.{PartsView}
use Rattle.slice_core_spec.specs.View.{View, cache_at, with_cache, IsShaped}
use Rattle.slice_core_cache.specs.Copy.{performed_on}
use Rattle.slice_core_cache.specs.Perform.{entries_of, tags_after}
use Rattle.slice_core_cache.specs.CoreCache.{CoreCacheView, tag_at}
use Rattle.slice_core_cache.specs.declared.tags.TagState.TheVariants as tag_states
use Rattle.slice_core_theory.proofs.Added.{account-added, waiting-added}
use Rattle.slice_core_theory.proofs.StandingHanded.{account-handed}
use Rattle.slice_core_theory.proofs.Hit.{account-hit, ordered-hit}
use Rattle.slice_core_theory.proofs.Ordered.{ordered-settled}
use Rattle.slice_core_theory.proofs.StandingSettled.{account-settled, entries-all, waiting-taken}
use Rattle.slice_core_theory.specs.Standing.{target_count}
use Rattle.slice_core.proofs.AccountsSteps.{accounts-posted, accounts-step, own-more, own-none}
use Rattle.slice_core.proofs.CountedStats.{counts-same, waiting-within}
use Rattle.slice_core.proofs.CountedSteps.{Counts, CountsSame, after_step, counted-posted, counted-step}
use Rattle.slice_core.specs.Sound.{HasAccounts, HasLinks, HasFittingCounts, IsSound}
use Rattle.slice_core_theory.specs.Newest.{IsFaithful}
use Rattle.target_list.specs.declared.target.Target.{Target}

-- The counts are right, and each core's requests are accounted for.
pub record Keeps (p : PartsView) : Type 0 where
  pub counted : HasFittingCounts p
  pub accounts : HasAccounts p.view

-- That is the invariant but for the links and the lines.
pub keeps-from_sound : (p : PartsView) → IsSound p → Keeps p
keeps-from_sound p sound = record { counted = sound.counted; accounts = sound.accounts }

pub sound-from_keeps : (p : PartsView) → Keeps p → HasLinks p.view → IsFaithful p.view → IsSound p
sound-from_keeps p keeps links faithful =
    record { counted = keeps.counted; accounts = keeps.accounts; links = links; faithful = faithful }

-- ---- steps that change no request

-- Neither is about the ring.
pub keeps-ring : (p : PartsView) (ring : List ℕ) → Keeps p → Keeps (record p { ring = ring })
keeps-ring p ring keeps = record {
  counted = record {
    shaped = keeps.counted.shaped;
    machine = keeps.counted.machine;
    some_core = keeps.counted.some_core;
    cores = keeps.counted.cores;
    stats = keeps.counted.stats;
    pending = keeps.counted.pending;
    room = keeps.counted.room;
    bounded = keeps.counted.bounded;
    accepted = keeps.counted.accepted;
  };
  accounts = keeps.accounts;
}

-- Caches, log and lines are as they were, and no accepted request was counted.
pub keeps-posted : (p : PartsView) (view : View) (stats : StatsView)
    → view.lines ≡ p.view.lines → view.caches ≡ p.view.caches → view.log ≡ p.view.log
    → CountsSame p stats → IsShaped view → Keeps p → Keeps (record p { view = view; stats = stats })
keeps-posted p view stats lines caches log same shaped keeps = record {
  counted = counted-posted p view stats lines caches log same shaped keeps.counted;
  accounts = accounts-posted p.view view lines caches log keeps.accounts;
}

-- the cache has the same requests
pub record HasSame (old new : CoreCacheView) : Type 0 where
  pub misses : new.misses ≡ old.misses
  pub tags : new.tags ≡ old.tags
  pub accepted : new.accepted ≡ old.accepted

-- the counts of a core before its step
pub counts-before : (p : PartsView) (core : CoreId) → HasFittingCounts p → core.0 < length p.view.caches
    → (core.0 < length p.stats.cores) × (accepted_of (counts_of p.stats core) ≡ (cache_at p.view core).accepted)
counts-before p core c known = let sized = c.stats in (omega (arith, known, sized), c.accepted core known)

-- A core's copies changed.
pub keeps-cache : (p : PartsView) (core : CoreId) (cache : CoreCacheView) (stats : StatsView) → core.0
    < length p.view.caches
    → HasSame (cache_at p.view core) cache → Counts p core (cache_at p.view core).accepted stats → Keeps p
    → Keeps (record p { view = with_cache p.view core cache; stats = stats })
keeps-cache p core cache stats known same counts keeps = record {
  counted =
      counted-step p core cache p.view.log stats p.pending p.room keeps.counted known
      (ap (λ m. p.pending + target_count m) (sym same.misses)) keeps.counted.room keeps.counted.bounded
      (rw same.accepted counts);
  accounts =
      accounts-step p.view core cache p.view.log known (own-none p.view.lines core.0 p.view.log)
      (rw (same.misses, same.tags, same.accepted) (keeps.accounts.accounts core known)) keeps.accounts.ordered
      keeps.accounts;
}

-- ---- accepted requests

-- An access was performed at once: its entry is the last of the log.
pub keeps-hit : (p : PartsView) (core : CoreId) (cache : CoreCacheView) (entry : Entry) (local : Local)
    (stats : StatsView)
    (room : ℕ)
    → core.0 < length p.view.caches → entry.core ≡ core → entry.seq ≡ (cache_at p.view core).accepted
    → entry.since ≡ length p.view.log → entry.word.0 / 8 ≡ (line_at p.view.lines local).0
    → has_miss (cache_at p.view core).misses local.0 ≡ false
    → cache.misses ≡ (cache_at p.view core).misses → cache.tags ≡ (cache_at p.view core).tags
    → cache.accepted ≡ (cache_at p.view core).accepted + 1
    → length p.view.log + p.pending + 1 ≤ room → room < 2 ^ 63
    → Counts p core ((cache_at p.view core).accepted + 1) stats → Keeps p
    → Keeps (after_step p core cache (p.view.log ++ entry ∷ []) stats p.pending room)
keeps-hit p core cache entry local stats room known own next now here idle misses states one fits bound counts keeps =
    record {
      counted =
          let longer = length_push p.view.log entry in
          counted-step p core cache (p.view.log ++ entry ∷ []) stats p.pending room keeps.counted known
          (ap (λ m. p.pending + target_count m) (sym misses)) (omega (arith, longer, fits)) bound (rw one counts);
      accounts =
          accounts-step p.view core cache (p.view.log ++ entry ∷ []) known
          (own-more p.view.lines core.0 p.view.log (entry ∷ [])
          (All-cons (λ (e : Entry). e.core.0 ≡ core.0) entry [] (ap (λ c. c.0) own) (All-nil _)))
          (rw (misses, states, one)
          (account-hit p.view.lines p.view.log core.0 (cache_at p.view core).misses (cache_at p.view core).tags
          (cache_at p.view core).accepted local entry keeps.counted.machine.slice (ap (λ c. c.0) own) next here idle
          (keeps.accounts.accounts core known)))
          (ordered-hit p.view.log core.0 (cache_at p.view core).misses (cache_at p.view core).accepted entry
          (ap (λ c. c.0) own) next now (keeps.accounts.accounts core known).standing keeps.accounts.ordered)
          keeps.accounts;
    }

-- An access waits: its tag is open.
pub keeps-added : (p : PartsView) (core : CoreId) (cache : CoreCacheView) (line : ℕ) (target : Target)
    (stats : StatsView)
    (room : ℕ)
    → core.0 < length p.view.caches → AddsTarget (cache_at p.view core).misses cache.misses line target
    → IsMissFile cache.misses → target.offset.0 < 8 → target.tag < 64
    → target.seq ≡ (cache_at p.view core).accepted → target.since ≡ length p.view.log
    → tag_at (cache_at p.view core) target.tag ≡ tag_states.Free
    → cache.tags ≡ slice_set (cache_at p.view core).tags target.tag tag_states.Open
    → cache.accepted ≡ (cache_at p.view core).accepted + 1
    → length p.view.log + p.pending + 1 ≤ room → room < 2 ^ 63
    → Counts p core ((cache_at p.view core).accepted + 1) stats → Keeps p
    → Keeps (after_step p core cache p.view.log stats (p.pending + 1) room)
keeps-added p core cache line target stats room known adds file word tag next now free states one fits bound counts
    keeps =
    record {
      counted =
          let more = waiting-added (cache_at p.view core).misses cache.misses line target adds in
          counted-step p core cache p.view.log stats (p.pending + 1) room keeps.counted known (omega (arith, more))
          (omega (arith, fits)) bound (rw one counts);
      accounts =
          accounts-step p.view core cache p.view.log known (own-none p.view.lines core.0 p.view.log)
          (rw (states, one)
          (account-added p.view.lines p.view.log core.0 (cache_at p.view core).misses cache.misses
          (cache_at p.view core).tags (cache_at p.view core).accepted line target adds file word tag next now free
          (keeps.accounts.accounts core known))) keeps.accounts.ordered keeps.accounts;
    }

-- ---- targets that are performed

-- There is an entry for each.
entries-length : (core : CoreId) (first : ℕ) (block : Block) (taken : List Target)
    → length (entries_of core first block taken) ≡ length taken
unfolding entries_of
entries-length core first block [] = refl
entries-length core first block (target ∷ taken) =
    let later = entries-length core first (performed_on block target.offset.0 target.op) taken in
    omega (arith, later)

-- They are the core's.
entries-own : (core : CoreId) (first : ℕ) (block : Block) (taken : List Target)
    → All (λ (e : Entry). e.core.0 ≡ core.0) (entries_of core first block taken)
entries-own core first block taken =
    entries-all (λ (e : Entry). e.core.0 ≡ core.0) (λ target. target.tag ≡ target.tag) core first
    (λ block target same. refl) block taken (λ k d inside. refl)

pub keeps-settled : (p : PartsView) (core : CoreId) (cache : CoreCacheView) (local : Local) (block : Block) (first : ℕ)
    (taken : List Target)
    → core.0 < length p.view.caches
    → TakesTargets (cache_at p.view core).misses cache.misses local.0 taken
    → (IsMissFile (cache_at p.view core).misses → IsMissFile cache.misses)
    → first ≡ 8 * (line_at p.view.lines local).0
    → cache.tags ≡ tags_after (cache_at p.view core).tags (length p.view.log) taken
    → cache.accepted ≡ (cache_at p.view core).accepted → Keeps p
    → Keeps (after_step p core cache (p.view.log ++ entries_of core first block taken) p.stats
    (p.pending - length taken)
    p.room)
keeps-settled p core cache local block first taken known takes file begins states same keeps = record {
  counted =
      let fewer = waiting-taken (cache_at p.view core).misses cache.misses local.0 taken takes in
      let within = waiting-within p core keeps.counted known in
      let all = length-append p.view.log (entries_of core first block taken) in
      let each = entries-length core first block taken in
      let fits = keeps.counted.room in
      let before = counts-before p core keeps.counted known in
      counted-step p core cache (p.view.log ++ entries_of core first block taken) p.stats (p.pending - length taken)
      p.room keeps.counted known (omega (arith, fewer, within)) (omega (arith, fewer, within, all, each, fits))
      keeps.counted.bounded
      (rw same (counts-same p core before.0 (cache_at p.view core).accepted before.1));
  accounts =
      let account = keeps.accounts.accounts core known in
      accounts-step p.view core cache (p.view.log ++ entries_of core first block taken) known
      (own-more p.view.lines core.0 p.view.log (entries_of core first block taken)
      (entries-own core first block taken))
      (rw (states, same)
      (account-settled p.view.lines p.view.log core first block (cache_at p.view core).misses cache.misses
      (cache_at p.view core).tags (cache_at p.view core).accepted local taken takes (file account.waits.file)
      keeps.counted.machine.slice begins account))
      (ordered-settled p.view.lines p.view.log core first block (cache_at p.view core).misses cache.misses
      (cache_at p.view core).tags (cache_at p.view core).accepted local taken takes begins account
      keeps.accounts.ordered)
      keeps.accounts;
}

-- ---- replies that are handed out

pub keeps-handed : (p : PartsView) (core : CoreId) (cache : CoreCacheView) (tag number : ℕ) → core.0
    < length p.view.caches
    → tag_at (cache_at p.view core) tag ≡ tag_states.Performed number
    → cache.misses ≡ (cache_at p.view core).misses
    → cache.tags ≡ slice_set (cache_at p.view core).tags tag tag_states.Free
    → cache.accepted ≡ (cache_at p.view core).accepted → Keeps p
    → Keeps (record p { view = with_cache p.view core cache })
keeps-handed p core cache tag number known performed misses states same keeps = record {
  counted =
      let before = counts-before p core keeps.counted known in
      counted-step p core cache p.view.log p.stats p.pending p.room keeps.counted known
      (ap (λ m. p.pending + target_count m) (sym misses)) keeps.counted.room keeps.counted.bounded
      (rw same (counts-same p core before.0 (cache_at p.view core).accepted before.1));
  accounts =
      accounts-step p.view core cache p.view.log known (own-none p.view.lines core.0 p.view.log)
      (rw (misses, states, same)
      (account-handed p.view.lines p.view.log core.0 (cache_at p.view core).misses (cache_at p.view core).tags
      (cache_at p.view core).accepted tag number performed (keeps.accounts.accounts core known)))
      keeps.accounts.ordered keeps.accounts;
}
