-- In a new slice copies, registers and requests fit together: there are none.
use Rattle.std.proofs.Common.{◌≡◌, ℕ, ◌<◌, ◌≤◌, true, false, length, replicate, get_or, Option, Some, None, IsSome}
use Rattle.std.proofs.Common.{IfSome, inl, inr, sym, ap, ◌∙◌, subst}
use Rattle.std.proofs.lemmas.Bool.{cases_lt}
use Rattle.std.proofs.lemmas.List.{get_or-replicate, get_or_past, length-replicate}
use Rattle.std.specs.Int.{IsPowerOfTwo}
use Rattle.address_map.specs.Config.{slice_lines}
use Rattle.address_map.specs.Locator.{Lines, lines_of}
use Rattle.address_map.specs.declared.address.CoreId.{CoreId}
use Rattle.address_map.specs.declared.address.Local.{Local}
use Rattle.address_map.specs.declared.address.SliceId.{SliceId}
use Rattle.address_map.specs.declared.config.Config.{Config}
use Rattle.cache_array.specs.Array.{held_at as array_at}
use Rattle.cache_table.specs.CopyState.{is_waiting}
use Rattle.cache_table.specs.declared.state.CopyState.TheVariants as copy_states
use Rattle.directory_table.specs.declared.state.DirEntry.{DirEntry}
use Rattle.mshr_file.specs.Miss.{has_miss, Bound}
use Rattle.slice_core_spec.specs.Initial.{AreInitialEntries, AreNewCaches}
use Rattle.slice_core_spec.specs.Calls.{IsNew, PartsView}
use Rattle.slice_core_spec.specs.View.{View, channels_at, cache_at}
use Rattle.slice_core_cache.proofs.Found.{copy_of-new, kept-new}
use Rattle.slice_core_cache.specs.Copy.{found_in}
use Rattle.slice_core_cache.specs.Kept.{IsKept, stands_in_array}
use Rattle.slice_core_cache.specs.CoreCache.{CoreCacheView, new_cache, state_of}
use Rattle.slice_core_cache.specs.declared.copy.CacheCopy.{CacheCopy}
use Rattle.slice_core.proofs.LinksRequests.{asked}
use Rattle.slice_core.proofs.LinksAsking.{sent-none}
use Rattle.slice_core.specs.Sound.{HasLinks, has_sent}
use Rattle.slice_queues.specs.Line.{CoreChannels, LineChannels, empty_line, no_messages}
use Rattle.writeback_buffer.specs.Buffer.{held_at as buffer_at}
use Rattle.writeback_buffer.specs.declared.pending.Leaving.{Leaving}

-- in a line of `cores` cores in which nothing waits, nothing is asked for
asked-empty : (cores core : ℕ) → asked (empty_line cores) core ≡ None
asked-empty cores core =
    elim (cases_lt core cores) [
      | inl within ↦
          ap (λ (c : CoreChannels). c.request) (get_or-replicate cores core no_messages no_messages within)
      | inr past ↦
          ap (λ (c : CoreChannels). c.request)
          (get_or_past (replicate cores no_messages) core no_messages
          (rw (length-replicate cores no_messages) past))
    ]

-- a core that holds something has a copy of it
copy-held : (cache : CoreCacheView) (local : Local) → IsSome (array_at cache.array local) → IsKept cache →
    state_of cache local ≡ copy_states.I → ⊥
copy-held cache local some kept is =
    by (array_at cache.array local) (buffer_at cache.buffer.write_backs local.0) some (kept.held local) is
  where
    by : (copy : Option CacheCopy) (leaving : Option Leaving) → IsSome copy →
        IfSome copy (λ c. stands_in_array c.state ≡ true) → (found_in copy leaving).state ≡ copy_states.I → ⊥
    by None leaving some stands is = cc
    by (Some copy) leaving some stands is = let gone : stands_in_array copy.state ≡ false = ap stands_in_array is in cc

-- A new slice has its links.
pub links_new : (v : View) (c : Config) (bound : Bound) (slice : ℕ) (own : Lines) → IsPowerOfTwo c.sets →
    c.writebacks ≤ 16 →
    AreNewCaches c bound slice c.cores v.caches → AreInitialEntries c own v.lines.lines v.entries →
    v.channels ≡ replicate v.lines.lines (empty_line c.cores) → HasLinks v
links_new v c bound slice own power few caches entries channels = record {
  kept = λ core h. subst IsKept (sym (new core h)) (kept-new c bound slice core.0 power few);
  own = λ core local h some. absurd (copy-held (cache_at v core) local some
      (subst IsKept (sym (new core h)) (kept-new c bound slice core.0 power few)) (gone core local h));
  leaves = λ core local h some.
      let none : buffer_at (cache_at v core).buffer.write_backs local.0 ≡ None =
      ap (λ (s : CoreCacheView). buffer_at s.buffer.write_backs local.0) (new core h) in
      cc;
  waits = λ core local h.
      ap is_waiting (gone core local h)
      ∙ sym (ap (λ (s : CoreCacheView). has_miss s.misses local.0) (new core h));
  sent = λ core local h inside.
      ap (has_sent (state_of (cache_at v core) local)) (nothing core local)
      ∙ sent-none (state_of (cache_at v core) local);
  owned = λ local inside.
      subst (λ (e : DirEntry). IfSome e.owner (λ owner. owner.0 < length v.caches))
      (sym (entries.each local.0 inside).2) tt;
}
  where
    new : (core : CoreId) → core.0 < length v.caches → cache_at v core ≡ new_cache c bound slice core.0
    new core h = caches.each core.0 (subst (λ n. core.0 < n) caches.count_is h)

    gone : (core : CoreId) (local : Local) → core.0 < length v.caches → state_of (cache_at v core) local ≡ copy_states.I
    gone core local h =
        ap (λ (s : CoreCacheView). state_of s local) (new core h)
        ∙ ap (λ (copy : CacheCopy). copy.state) (copy_of-new c bound slice core.0 local)

    nothing : (core : CoreId) (local : Local) → asked (channels_at v local) core.0 ≡ None
    nothing core local =
        elim (cases_lt local.0 v.lines.lines) [
          | inl within ↦
              ap (λ (line : LineChannels). asked line core.0)
              (ap (λ lines. get_or lines local.0 (empty_line 0)) channels
              ∙ get_or-replicate v.lines.lines local.0 (empty_line c.cores) (empty_line 0) within)
              ∙ asked-empty c.cores core.0
          | inr past ↦
              ap (λ (line : LineChannels). asked line core.0)
              (ap (λ lines. get_or lines local.0 (empty_line 0)) channels
              ∙ get_or_past (replicate v.lines.lines (empty_line c.cores)) local.0 (empty_line 0)
              (rw (length-replicate v.lines.lines (empty_line c.cores)) past))
              ∙ asked-empty 0 core.0
        ]

-- The same, as a slice begins with its machine's configuration, whose number of sets is a power of two.
pub links_initial : (c : Config) (bound : Bound) (slice : SliceId) (p : PartsView) → IsNew c bound slice p →
    IsPowerOfTwo c.sets → HasLinks p.view
links_initial c bound slice p new power =
    let count : slice_lines c ≡ p.view.lines.lines = sym (ap (λ (l : Lines). l.lines) new.lines) in
    links_new p.view c bound slice.0 (lines_of c slice) power new.allowed.few_writebacks new.caches
    (subst (λ n. AreInitialEntries c (lines_of c slice) n p.view.entries) count new.entries)
    (new.channels_are ∙ ap (λ n. replicate n (empty_line c.cores)) count)
