-- A step that changes one line of one core keeps what copies, registers and requests owe each other, if it holds of
-- that
-- line and core again.
use Rattle.std.proofs.Common.{◌≡◌, ◌≢◌, ℕ, ◌<◌, true, List, length, get_or, set, Option, IsSome, inl, inr, sym, ap, ◌∙◌}
use Rattle.std.proofs.Common.{subst, IfSome}
use Rattle.std.proofs.lemmas.Bool.{cases_eq}
use Rattle.std.proofs.lemmas.List.{get_or-set_same, get_or-set_other, length-set, set-get_or}
use Rattle.address_map.specs.declared.address.CoreId.{CoreId}
use Rattle.address_map.specs.declared.address.Local.{Local}
use Rattle.cache_array.specs.Array.{held_at as array_at}
use Rattle.cache_table.specs.CopyState.{is_waiting}
use Rattle.mshr_file.specs.Miss.{has_miss, is_waited, targets_of}
use Rattle.slice_log.specs.declared.entry.Entry.{Entry}
use Rattle.slice_core_cache.proofs.Lines.{ChangesLine, FitsIn, copy_here, copy_other, kept_by}
use Rattle.slice_core_cache.specs.Copy.{found_in}
use Rattle.slice_core_cache.specs.Kept.{IsKept}
use Rattle.slice_core_cache.specs.CoreCache.{CoreCacheView, copy_of, state_of}
use Rattle.slice_core_cache.specs.declared.copy.CacheCopy.{CacheCopy}
use Rattle.slice_core_spec.specs.View.{View, channels_at, entry_at, cache_at, with_channels, with_cache, no_cache}
use Rattle.slice_core_spec.specs.View.{IsShaped}
use Rattle.slice_core.specs.Sound.{HasLinks, has_sent}
use Rattle.slice_queues.specs.Line.{LineChannels, core_at, empty_line}
use Rattle.writeback_buffer.specs.Buffer.{held_at as buffer_at}
use Rattle.writeback_buffer.specs.declared.pending.Leaving.{Leaving}

-- what holds of the new element at its place, and of the old ones elsewhere, holds at every place
pub placed : {A : Type 0} (P : A → Type 0) (xs : List A) (i j : ℕ) (x d : A) → i < length xs →
    (j ≡ i → P x) → (j ≢ i → P (get_or xs j d)) → P (get_or (set xs i x) j d)
placed P xs i j x d within here elsewhere =
    elim (cases_eq j i) [
      | inl same ↦
          subst (λ k. P (get_or (set xs i x) k d)) (sym same)
          (subst P (sym (get_or-set_same xs i x d within)) (here same))
      | inr apart ↦ subst P (sym (get_or-set_other xs i j x d apart)) (elsewhere apart)
    ]

-- lines and cores of one number are one
pub same_local : (a b : Local) → a.0 ≡ b.0 → a ≡ b
same_local a b e = let named : ℕ → Local = λ n. record { 0 = n } in ap named e

-- The core has this cache now and the line these channels: of the line the core's array and buffer hold this, its
-- register fits the copy, and so does what the core has asked for. Registers of other lines and requests of other cores
-- are as they were.
pub record IsLineStep (v : View) (core : CoreId) (local : Local) (cache : CoreCacheView) (line : LineChannels)
    (copy : Option CacheCopy) (leaving : Option Leaving) : Type 0 where
  pub changes : ChangesLine (cache_at v core) cache local copy leaving
  pub fits : FitsIn copy leaving
  pub misses : (other : ℕ) → other ≢ local.0 → targets_of cache.misses other ≡ targets_of (cache_at v core).misses other
  pub requests : (other : ℕ) → other ≢ core.0 → (core_at line other).request
      ≡ (core_at (channels_at v local) other).request
  pub waits : is_waiting (found_in copy leaving).state ≡ has_miss cache.misses local.0
  pub sent : has_sent (found_in copy leaving).state (core_at line core.0).request ≡ true

module _ (v : View) (core : CoreId) (local : Local) (cache : CoreCacheView) (line : LineChannels)
    (copy : Option CacheCopy)
    (leaving : Option Leaving) (step : IsLineStep v core local cache line copy leaving) (shaped : IsShaped v)
    (links : HasLinks v) (there : core.0 < length v.caches) (within : local.0 < v.lines.lines) where
  copy_is : copy_of cache local ≡ found_in copy leaving
  copy_is = copy_here (cache_at v core) cache local copy leaving step.changes

  other_is : (other : Local) → other.0 ≢ local.0 → copy_of cache other ≡ copy_of (cache_at v core) other
  other_is = copy_other (cache_at v core) cache local copy leaving step.changes

  lined : local.0 < length v.channels
  lined = subst (λ n. local.0 < n) (sym shaped.lines) within

  is_core : (other : ℕ) → other < length (set v.caches core.0 cache) → other < length v.caches
  is_core other h = subst (λ n. other < n) (length-set v.caches core.0 cache) h

  kept_now : IsKept cache
  kept_now = kept_by (cache_at v core) cache local copy leaving step.changes (links.kept core there) step.fits

  own_now : (other : Local) → IsSome (array_at cache.array other) → other.0 < v.lines.lines
  own_now other some =
      elim (cases_eq other.0 local.0) [
        | inl same ↦ subst (λ n. n < v.lines.lines) (sym same) within
        | inr apart ↦ links.own core other there (subst IsSome (step.changes.array_others other apart) some)
      ]

  leaves_now : (other : Local) → IsSome (buffer_at cache.buffer.write_backs other.0) → other.0 < v.lines.lines
  leaves_now other some =
      elim (cases_eq other.0 local.0) [
        | inl same ↦ subst (λ n. n < v.lines.lines) (sym same) within
        | inr apart ↦ links.leaves core other there (subst IsSome (step.changes.buffer_others other apart) some)
      ]

  waits_now : (other : Local) → is_waiting (state_of cache other) ≡ has_miss cache.misses other.0
  waits_now other =
      elim (cases_eq other.0 local.0) [
        | inl same ↦
            subst (λ (l : Local). is_waiting (state_of cache l) ≡ has_miss cache.misses l.0)
            (sym (same_local other local same))
            (ap (λ (c : CacheCopy). is_waiting c.state) copy_is ∙ step.waits)
        | inr apart ↦
            ap (λ (c : CacheCopy). is_waiting c.state) (other_is other apart) ∙ links.waits core other there
            ∙ sym (ap is_waited (step.misses other.0 apart))
      ]

  sent_here : (other : CoreId) → other.0 < length v.caches →
      has_sent (state_of (get_or (set v.caches core.0 cache) other.0 no_cache) local) (core_at line other.0).request
      ≡ true
  sent_here other inside =
      placed (λ (s : CoreCacheView). has_sent (state_of s local) (core_at line other.0).request ≡ true)
      v.caches core.0 other.0 cache no_cache there
      (λ same.
      subst (λ n. has_sent (state_of cache local) (core_at line n).request ≡ true) (sym same)
      (subst (λ (c : CacheCopy). has_sent c.state (core_at line core.0).request ≡ true) (sym copy_is) step.sent))
      (λ apart.
      subst (λ r. has_sent (state_of (cache_at v other) local) r ≡ true) (sym (step.requests other.0 apart))
      (links.sent other local inside within))

  sent_elsewhere : (other : CoreId) (l : Local) → other.0 < length v.caches → l.0 < v.lines.lines → l.0 ≢ local.0 →
      has_sent (state_of (get_or (set v.caches core.0 cache) other.0 no_cache) l)
      (core_at (channels_at v l) other.0).request ≡ true
  sent_elsewhere other l inside lies apart =
      placed (λ (s : CoreCacheView). has_sent (state_of s l) (core_at (channels_at v l) other.0).request ≡ true)
      v.caches core.0 other.0 cache no_cache there
      (λ same.
      subst (λ n. has_sent (state_of cache l) (core_at (channels_at v l) n).request ≡ true) (sym same)
      (subst (λ (c : CacheCopy). has_sent c.state (core_at (channels_at v l) core.0).request ≡ true)
      (sym (other_is l apart)) (links.sent core l there lies)))
      (λ differs. links.sent other l inside lies)

  -- A step that changes one line of one core keeps the links.
  pub links_step : HasLinks (with_channels (with_cache v core cache) local line)
  links_step = record {
    kept = λ other h.
        placed IsKept v.caches core.0 other.0 cache no_cache there (λ same. kept_now)
        (λ apart. links.kept other (is_core other.0 h));
    own = λ other l h.
        placed (λ (s : CoreCacheView). IsSome (array_at s.array l) →
        l.0 < v.lines.lines) v.caches core.0 other.0 cache no_cache there
        (λ same. own_now l) (λ apart. links.own other l (is_core other.0 h));
    leaves = λ other l h.
        placed (λ (s : CoreCacheView). IsSome (buffer_at s.buffer.write_backs l.0) →
        l.0 < v.lines.lines) v.caches core.0 other.0 cache no_cache there
        (λ same. leaves_now l) (λ apart. links.leaves other l (is_core other.0 h));
    waits = λ other l h.
        placed (λ (s : CoreCacheView). is_waiting (state_of s l) ≡ has_miss s.misses l.0) v.caches core.0 other.0 cache
        no_cache there
        (λ same. waits_now l) (λ apart. links.waits other l (is_core other.0 h));
    sent = λ other l h inside.
        placed (λ (c : LineChannels). has_sent (state_of (get_or (set v.caches core.0 cache) other.0 no_cache) l)
        (core_at c other.0).request ≡ true)
        v.channels local.0 l.0 line (empty_line 0) lined
        (λ same.
        subst (λ (k : Local). has_sent (state_of (get_or (set v.caches core.0 cache) other.0 no_cache) k)
        (core_at line other.0).request ≡ true)
        (sym (same_local l local same)) (sent_here other (is_core other.0 h)))
        (λ apart. sent_elsewhere other l (is_core other.0 h) inside apart);
    owned = λ l inside.
        subst (λ n. IfSome (entry_at v l).owner (λ owner. owner.0 < n)) (sym (length-set v.caches core.0 cache))
        (links.owned l inside);
  }

-- The log is no part of it.
pub links_logged : (v : View) (log : List Entry) → HasLinks v → HasLinks (record v { log = log })
links_logged v log links = record {
  kept = links.kept;
  own = links.own;
  leaves = links.leaves;
  waits = links.waits;
  sent = links.sent;
  owned = links.owned;
}

-- A step of a core alone is one that leaves the line's channels as they are.
pub links_cache : (v : View) (core : CoreId) (local : Local) (cache : CoreCacheView) (copy : Option CacheCopy)
    (leaving : Option Leaving) →
    IsLineStep v core local cache (channels_at v local) copy leaving → IsShaped v → HasLinks v →
    core.0 < length v.caches → local.0 < v.lines.lines → HasLinks (with_cache v core cache)
links_cache v core local cache copy leaving step shaped links there within =
    subst (λ channels. HasLinks (record (with_cache v core cache) { channels = channels }))
    (set-get_or v.channels local.0 (empty_line 0))
    (links_step v core local cache (channels_at v local) copy leaving step shaped links there within)
