-- Counts and accounts of a slice in which nothing was asked for yet.
use Rattle.std.proofs.Common.{◌≡◌, ◌<◌, ◌≤◌, List, length, get_or, refl, sym, ap, ◌∙◌, arith}
use Rattle.std.specs.Prelude.{sum_by, All}
use Rattle.std.proofs.Math.Nat.{div-le_self}
use Rattle.std.proofs.lemmas.List.{get_or-replicate, get_or_default, length-replicate}
use Rattle.std.proofs.lemmas.List.Sums.{sum_by-le}
use Rattle.address_map.specs.Config.{IsAllowed, IsSliceCount, slice_lines}
use Rattle.address_map.specs.Locator.{Lines, IsOfMachine, lines_of}
use Rattle.address_map.specs.declared.address.CoreId.{CoreId}
use Rattle.address_map.specs.declared.address.Local.{Local}
use Rattle.address_map.specs.declared.address.SliceId.{SliceId}
use Rattle.address_map.specs.declared.config.Config.{Config}
use Rattle.mshr_file.specs.Miss.{Bound}
use Rattle.slice_answer.specs.Stats.{StatsView, accepted_of, counts_of, no_counts}
use Rattle.slice_log.proofs.Pushes.{IsOrdered-nil}
use Rattle.slice_core_spec.specs.Calls.{PartsView, IsNew}
use Rattle.slice_core_spec.specs.View.{channels_at, no_cache, cache_at, IsShaped}
use Rattle.slice_core_cache.specs.CoreCache.{CoreCacheView, new_cache}
use Rattle.slice_core_theory.proofs.Begins.{account-begins}
use Rattle.slice_core_theory.specs.Standing.{target_count}
use Rattle.slice_core.proofs.AccountsKept.{Keeps}
use Rattle.slice_core.specs.Sound.{HasAccounts, HasFittingCounts}
use Rattle.slice_queues.specs.Line.{LineChannels, empty_line, no_messages}

-- The lines of a slice of a configured machine are those of a slice that a machine can have.
of-machine : (c : Config) (slice : SliceId) → IsAllowed c → slice.0 < c.slices → IsOfMachine (lines_of c slice)
unfolding IsSliceCount
of-machine c slice allowed within = record {
  few_slices = allowed.slice_counts;
  slice = within;
  few_lines =
      let fewer = div-le_self c.lines c.slices in
      let few = allowed.few_lines in
      omega (arith, fewer, few);
}

module _ (c : Config) (bound : Bound) (slice : SliceId) (p : PartsView) (new : IsNew c bound slice p) where
  many-lines : p.view.lines.lines ≡ slice_lines c
  many-lines = ap (λ (l : Lines). l.lines) new.lines

  line-begins : (local : Local) → local.0 < p.view.lines.lines → channels_at p.view local ≡ empty_line c.cores
  line-begins local inside =
      let all = many-lines in
      ap (λ (lines : List LineChannels). get_or lines local.0 (empty_line 0)) new.channels_are
      ∙ get_or-replicate (slice_lines c) local.0 (empty_line c.cores) (empty_line 0) (omega (arith, inside, all))

  cache-begins : (core : CoreId) → core.0 < length p.view.caches → cache_at p.view core
      ≡ new_cache c bound slice.0 core.0
  cache-begins core inside = let all = new.caches.count_is in new.caches.each core.0 (omega (arith, inside, all))

  shaped-begins : IsShaped p.view
  shaped-begins = record {
    entries = new.entries.count_is ∙ sym many-lines;
    lines =
        ap (λ (lines : List LineChannels). length lines) new.channels_are
        ∙ length-replicate (slice_lines c) (empty_line c.cores) ∙ sym many-lines;
    cores = λ local inside.
        ap (λ (l : LineChannels). length l.cores) (line-begins local inside) ∙ length-replicate c.cores no_messages
        ∙ sym new.caches.count_is;
  }

  none-waits : sum_by (λ (s : CoreCacheView). target_count s.misses) p.view.caches ≡ 0
  none-waits =
      let most = sum_by-le (λ (s : CoreCacheView). target_count s.misses) 0 p.view.caches each in
      omega (arith, most)
    where
      each : All (λ (s : CoreCacheView). target_count s.misses ≤ 0) p.view.caches
      each k d inside =
          let same = get_or_default p.view.caches k d no_cache inside in
          let none = ap (λ (s : CoreCacheView). target_count s.misses) (same ∙ cache-begins (record { 0 = k }) inside)
          in
          omega (arith, none)

  counted-begins : slice.0 < c.slices → HasFittingCounts p
  counted-begins within = record {
    shaped = shaped-begins;
    machine = rw new.lines (of-machine c slice new.allowed within);
    some_core = let some = new.allowed.some_core in let all = new.caches.count_is in omega (arith, some, all);
    cores = let few = new.allowed.few_cores in let all = new.caches.count_is in omega (arith, few, all);
    stats =
        ap (λ (s : StatsView). length s.cores) new.stats ∙ length-replicate c.cores no_counts
        ∙ sym new.caches.count_is;
    pending = new.pending ∙ sym none-waits;
    room =
        let none = ap length new.log in
        let waits = new.pending in
        omega (arith, none, waits);
    bounded = new.room;
    accepted = λ core inside.
        let all = new.caches.count_is in
        ap (λ (s : StatsView). accepted_of (counts_of s core)) new.stats
        ∙ ap accepted_of (get_or-replicate c.cores core.0 no_counts no_counts (omega (arith, inside, all)))
        ∙ sym (ap (λ (s : CoreCacheView). s.accepted) (cache-begins core inside));
  }

  accounts-begin : HasAccounts p.view
  accounts-begin = record {
    accounts = λ core inside. rw (new.log, cache-begins core inside) (account-begins p.view.lines core.0);
    absent = λ core past. rw new.log refl;
    ordered = rw new.log IsOrdered-nil;
  }

  pub keeps-begins : slice.0 < c.slices → Keeps p
  keeps-begins within = record { counted = counted-begins within; accounts = accounts-begin }
