-- The sizes and counts of a slice after a step of one core, and after a step of the channels.
use Rattle.std.proofs.Common.{◌≡◌, ◌≢◌, ℕ, ◌+◌, ◌^◌, ◌<◌, ◌≤◌, List, length, get_or, sym, ap, ◌∙◌, ⊎_elim, arith}
use Rattle.std.specs.Prelude.{slice_set}
use Rattle.std.proofs.lemmas.Bool.{cases_eq}
use Rattle.std.proofs.lemmas.List.{get_or-set_other, get_or-set_same, length-set}
use Rattle.std.proofs.lemmas.List.Sums.{sum_by-set}
use Rattle.address_map.specs.declared.address.CoreId.{CoreId}
use Rattle.address_map.specs.declared.address.Local.{Local}
use Rattle.directory_table.specs.declared.state.DirEntry.{DirEntry}
use Rattle.slice_answer.specs.Stats.{StatsView, accepted_of, counts_of}
use Rattle.slice_log.specs.declared.entry.Entry.{Entry}
use Rattle.slice_core_spec.specs.Calls.{PartsView}
use Rattle.slice_core_spec.specs.View.{View, channels_at, no_cache, cache_at, with_channels, with_entry, with_cache}
use Rattle.slice_core_spec.specs.View.{IsShaped}
use Rattle.slice_core_cache.specs.CoreCache.{CoreCacheView}
use Rattle.slice_core_theory.specs.Standing.{target_count}
use Rattle.slice_core.specs.Sound.{HasFittingCounts}
use Rattle.slice_queues.specs.Line.{LineChannels, empty_line}

-- ---- one core's cache

module _ (v : View) (core : CoreId) (cache : CoreCacheView) (known : core.0 < length v.caches) where
  -- A core's new cache is what is found there.
  pub cache-here : (other : CoreId) → other.0 ≡ core.0 → cache_at (with_cache v core cache) other ≡ cache
  cache-here other same =
      ap (λ n. get_or (slice_set v.caches core.0 cache) n no_cache) same
      ∙ get_or-set_same v.caches core.0 cache no_cache known

  -- Another core has what it had.
  pub cache-there : (other : CoreId) → other.0 ≢ core.0 → cache_at (with_cache v core cache) other ≡ cache_at v other
  cache-there other apart = get_or-set_other v.caches core.0 other.0 cache no_cache apart

-- ---- a step of one core

-- the slice after a step of one core: its cache, what was performed, and what is counted of it
abbrev pub after_step : PartsView → CoreId → CoreCacheView → List Entry → StatsView → ℕ → ℕ → PartsView
after_step p core cache log stats pending room = record p {
  view = record (with_cache p.view core cache) { log = log };
  stats = stats;
  pending = pending;
  room = room;
}

-- The count of a core is the number that it had accepted; for the others nothing new was counted.
pub record Counts (p : PartsView) (core : CoreId) (accepted : ℕ) (stats : StatsView) : Type 0 where
  pub sized : length stats.cores ≡ length p.stats.cores
  pub here : accepted_of (counts_of stats core) ≡ accepted
  pub others : (other : CoreId) → other.0 ≢ core.0
      → accepted_of (counts_of stats other) ≡ accepted_of (counts_of p.stats other)

-- A core's step leaves the counts right where the number that wait is that in its registers, and the log has room.
pub counted-step : (p : PartsView) (core : CoreId) (cache : CoreCacheView) (log : List Entry) (stats : StatsView)
    (pending room : ℕ)
    → HasFittingCounts p → core.0 < length p.view.caches
    → pending + target_count (cache_at p.view core).misses ≡ p.pending + target_count cache.misses
    → length log + pending ≤ room → room < 2 ^ 63 → Counts p core cache.accepted stats
    → HasFittingCounts (after_step p core cache log stats pending room)
counted-step p core cache log stats pending room c known waits fits bounded counts = record {
  shaped = record {
    entries = c.shaped.entries;
    lines = c.shaped.lines;
    cores = λ local inside. c.shaped.cores local inside ∙ sym long;
  };
  machine = c.machine;
  some_core = let some = c.some_core in omega (arith, some, long);
  cores = let few = c.cores in omega (arith, few, long);
  stats = counts.sized ∙ c.stats ∙ sym long;
  pending =
      let before = c.pending in
      let sums = sum_by-set (λ (s : CoreCacheView). target_count s.misses) p.view.caches core.0 cache no_cache known in
      omega (arith, before, sums, waits);
  room = fits;
  bounded = bounded;
  accepted = λ other inside. ⊎_elim (here other) (there other (omega (arith, inside, long))) (cases_eq other.0 core.0);
}
  where
    long : length (slice_set p.view.caches core.0 cache) ≡ length p.view.caches
    long = length-set p.view.caches core.0 cache

    here : (other : CoreId) → other.0 ≡ core.0
        → accepted_of (counts_of stats other) ≡ (cache_at (with_cache p.view core cache) other).accepted
    here other same =
        ap (λ n. accepted_of (counts_of stats (record { 0 = n }))) same ∙ counts.here
        ∙ sym (ap (λ (s : CoreCacheView). s.accepted) (cache-here p.view core cache known other same))

    there : (other : CoreId) → other.0 < length p.view.caches → other.0 ≢ core.0
        → accepted_of (counts_of stats other) ≡ (cache_at (with_cache p.view core cache) other).accepted
    there other inside apart =
        counts.others other apart ∙ c.accepted other inside
        ∙ sym (ap (λ (s : CoreCacheView). s.accepted) (cache-there p.view core cache known other apart))

-- ---- channels and entries of a line

-- A line still has channels for each core.
pub shaped-channels : (v : View) (local : Local) (line : LineChannels)
    → length line.cores ≡ length (channels_at v local).cores
    → IsShaped v → IsShaped (with_channels v local line)
shaped-channels v local line sized shaped = record {
  entries = shaped.entries;
  lines = length-set v.channels local.0 line ∙ shaped.lines;
  cores = λ other inside. ⊎_elim (here other inside) (there other inside) (cases_eq other.0 local.0);
}
  where
    here : (other : Local) → other.0 < v.lines.lines → other.0 ≡ local.0
        → length (channels_at (with_channels v local line) other).cores ≡ length v.caches
    here other inside same =
        let all = shaped.lines in
        ap (λ n. length (get_or (slice_set v.channels local.0 line) n (empty_line 0)).cores) same
        ∙ ap (λ (l : LineChannels). length l.cores)
        (get_or-set_same v.channels local.0 line (empty_line 0) (omega (arith, inside, same, all)))
        ∙ sized ∙ shaped.cores local (omega (arith, inside, same))

    there : (other : Local) → other.0 < v.lines.lines → other.0 ≢ local.0
        → length (channels_at (with_channels v local line) other).cores ≡ length v.caches
    there other inside apart =
        ap (λ (l : LineChannels). length l.cores)
        (get_or-set_other v.channels local.0 other.0 line (empty_line 0) apart) ∙ shaped.cores other inside

pub shaped-entry : (v : View) (local : Local) (entry : DirEntry) → IsShaped v → IsShaped (with_entry v local entry)
shaped-entry v local entry shaped = record {
  entries = length-set v.entries local.0 entry ∙ shaped.entries;
  lines = shaped.lines;
  cores = shaped.cores;
}

-- No accepted request was counted.
pub record CountsSame (p : PartsView) (stats : StatsView) : Type 0 where
  pub sized : length stats.cores ≡ length p.stats.cores
  pub each : (core : CoreId) → accepted_of (counts_of stats core) ≡ accepted_of (counts_of p.stats core)

-- A view with the same caches, log and lines has the same counts then.
pub counted-posted : (p : PartsView) (view : View) (stats : StatsView)
    → view.lines ≡ p.view.lines → view.caches ≡ p.view.caches → view.log ≡ p.view.log
    → CountsSame p stats → IsShaped view → HasFittingCounts p
    → HasFittingCounts (record p { view = view; stats = stats })
counted-posted p view stats lines caches log same shaped c = record {
  shaped = shaped;
  machine = rw lines c.machine;
  some_core = rw caches c.some_core;
  cores = rw caches c.cores;
  stats = rw caches (same.sized ∙ c.stats);
  pending = rw caches c.pending;
  room = rw log c.room;
  bounded = c.bounded;
  accepted = λ core inside. rw caches (same.each core ∙ c.accepted core (rw caches at inside));
}
