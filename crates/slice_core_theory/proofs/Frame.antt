-- A step on one line of a slice leaves its other lines as they stand.
use Rattle.std.proofs.Common.{◌≡◌, ◌≢◌, ℕ, ◌<◌, ◌==◌, Bool, true, false, if◌then◌else◌, List, length, get_or, set, inl}
use Rattle.std.proofs.Common.{inr, refl, sym, ap, ◌∙◌, subst}
use Rattle.std.proofs.lemmas.Bool.{cases_eq, eqb-false, eqb-true}
use Rattle.std.proofs.lemmas.List.{get_or-set_same, get_or-set_other, length-set, set-get_or}
use Rattle.address_map.specs.declared.address.CoreId.{CoreId}
use Rattle.address_map.specs.declared.address.Local.{Local}
use Rattle.directory_table.specs.declared.state.DirEntry.{DirEntry}
use Rattle.protocol_coherence.specs.Line.{Line}
use Rattle.protocol_coherence.specs.LineSteps.{Reached}
use Rattle.slice_core_cache.specs.CoreCache.{CoreCacheView, copy_of}
use Rattle.slice_core_cache.specs.declared.copy.CacheCopy.{CacheCopy}
use Rattle.slice_core_theory.specs.Stands.{AreReached, IsReached, LineStands, Stands, copies_at}
use Rattle.slice_core_spec.specs.View.{View, IsShaped, channels_at, entry_at, no_entry, no_cache, cache_at}
use Rattle.slice_core_spec.specs.View.{with_channels}
use Rattle.slice_core_spec.specs.View.{with_entry, with_cache}
use Rattle.slice_log.specs.declared.entry.Entry.{Entry}
use Rattle.slice_queues.specs.Line.{LineChannels, empty_line}

-- ---- cases

-- Whatever the test of two numbers gives, by what is known of them then.
pub by_number : (x c : ℕ) (P : Bool → Type 0) → (x ≡ c → P true) → ((x ≡ c → ⊥) → P false) → P (x == c)
by_number x c P same apart = go (x == c) refl
  where
    go : (b : Bool) → (x == c) ≡ b → P b
    go true e = same (eqb-true x c e)
    go false e = apart (eqb-false x c e)

-- The element at a place of a list, after another was put there or elsewhere.
pub read-set : {A : Type 0} (xs : List A) (c x : ℕ) (a none : A) → c < length xs
    → get_or (set xs c a) x none ≡ (if x == c then a else get_or xs x none)
read-set xs c x a none within =
    by_number x c (λ b. get_or (set xs c a) x none ≡ (if b then a else get_or xs x none))
    (λ same. subst (λ y. get_or (set xs c a) y none ≡ a) (sym same) (get_or-set_same xs c a none within))
    (λ apart. get_or-set_other xs c x a none apart)

pub same_local : (a b : Local) → a.0 ≡ b.0 → a ≡ b
same_local a b e = let named : ℕ → Local = λ n. record { 0 = n } in ap named e

-- ---- copies

-- the copies where one core's is another
abbrev pub with_copy_at : (ℕ → CacheCopy) → ℕ → CacheCopy → ℕ → CacheCopy
with_copy_at copy core now other = if other == core then now else copy other

-- Only the copies of the cores count.
pub line_as : (cores : ℕ) (entry : DirEntry) (channels : LineChannels) (copy now : ℕ → CacheCopy) (line : Line)
    → ((core : ℕ) → core < cores → now core ≡ copy core) → LineStands cores entry channels copy line
    → LineStands cores entry channels now line
line_as cores entry channels copy now line same stands = record {
  entry_stands = stands.entry_stands;
  home = stands.home;
  part = λ core within. rw (same core within) (stands.part core within);
  acks = stands.acks;
}

-- ---- the slice

-- The line has what it had, in the entry, the channels and the copies.
pub record IsAlike (old new : View) (local : Local) : Type 0 where
  pub entry : entry_at new local ≡ entry_at old local
  pub channels : channels_at new local ≡ channels_at old local
  pub copies : (core : ℕ) → core < length old.caches → copies_at new local core ≡ copies_at old local core

-- Views of as many cores and lines.
pub record IsSized (old new : View) : Type 0 where
  pub exclusive : new.exclusive ≡ old.exclusive
  pub lines : new.lines.lines ≡ old.lines.lines
  pub cores : length new.caches ≡ length old.caches

-- Where one line is reached and the others have what they had, all are reached.
pub frame : (old new : View) (local : Local) → IsSized old new
    → ((other : Local) → other.0 < old.lines.lines → other.0 ≢ local.0 → IsAlike old new other)
    → (line : Line) → Reached old.exclusive (length old.caches) line
    → LineStands (length old.caches) (entry_at new local) (channels_at new local) (copies_at new local) line
    → AreReached old → AreReached new
frame old new local sized alike line reached stands all other within =
    elim (cases_eq other.0 local.0) [
      | inl same ↦
          subst (λ l. IsReached new l) (sym (same_local other local same)) (line, again reached, fit local stands)
      | inr apart ↦
          let inside = subst (λ n. other.0 < n) sized.lines within in
          let there = all other inside in
          (there.0, again there.1, fit other (moved other (alike other inside apart) there.0 there.2))
    ]
  where
    again : {line : Line} → Reached old.exclusive (length old.caches) line
        → Reached new.exclusive (length new.caches) line
    again reached = rw (sized.exclusive, sized.cores) reached

    fit : {line : Line} (l : Local)
        → LineStands (length old.caches) (entry_at new l) (channels_at new l) (copies_at new l) line → Stands new l line
    fit {line = line} l stands = subst (λ n. LineStands n (entry_at new l) (channels_at new l) (copies_at new l) line)
        (sym sized.cores) stands

    moved : (l : Local) → IsAlike old new l → (line : Line) → Stands old l line
        → LineStands (length old.caches) (entry_at new l) (channels_at new l) (copies_at new l) line
    moved l alike line stands =
        line_as (length old.caches) (entry_at new l) (channels_at new l) (copies_at old l) (copies_at new l) line
        alike.copies
        (subst (λ e. LineStands (length old.caches) e (channels_at new l) (copies_at old l) line) (sym alike.entry)
        (subst (λ c. LineStands (length old.caches) (entry_at old l) c (copies_at old l) line) (sym alike.channels)
        stands))

-- the slice where this is a line's entry, these are its channels, this is a core's cache and this the log
abbrev pub stepped : View → Local → DirEntry → LineChannels → CoreId → CoreCacheView → List Entry → View
stepped v local entry channels core cache log = record v {
  entries = set v.entries local.0 entry;
  channels = set v.channels local.0 channels;
  caches = set v.caches core.0 cache;
  log = log;
}

-- The line's entry and its channels are those that were put there.
module _ (v : View) (local : Local) (shaped : IsShaped v) (inside : local.0 < v.lines.lines) where
  pub entry_is : (entry : DirEntry) → get_or (set v.entries local.0 entry) local.0 no_entry ≡ entry
  entry_is entry = get_or-set_same v.entries local.0 entry no_entry (subst (λ n. local.0 < n) (sym shaped.entries)
      inside)

  pub channels_are : (channels : LineChannels)
      → get_or (set v.channels local.0 channels) local.0 (empty_line 0) ≡ channels
  channels_are channels =
      get_or-set_same v.channels local.0 channels (empty_line 0) (subst (λ n. local.0 < n) (sym shaped.lines) inside)

module _ (v : View) (local : Local) (shaped : IsShaped v) (inside : local.0 < v.lines.lines) (all : AreReached v) where
  -- A step that changes one line's entry, its channels, one core's copy of it, and the log: the lines are reached if
  -- that line is.
  pub by_step : (entry : DirEntry) (channels : LineChannels) (core : CoreId) (cache : CoreCacheView) (log : List Entry)
      → core.0 < length v.caches
      → ((other : Local) → other.0 < v.lines.lines → other.0 ≢ local.0
      → copy_of cache other ≡ copy_of (cache_at v core) other)
      → (line : Line) → Reached v.exclusive (length v.caches) line
      → LineStands (length v.caches) entry channels (with_copy_at (copies_at v local) core.0 (copy_of cache local)) line
      → AreReached (stepped v local entry channels core cache log)
  by_step entry channels core cache log there others line reached stands =
      frame v new local sized
      (λ other within apart. record {
        entry = get_or-set_other v.entries local.0 other.0 entry no_entry apart;
        channels = get_or-set_other v.channels local.0 other.0 channels (empty_line 0) apart;
        copies = λ x below.
            ap (λ (s : CoreCacheView). copy_of s other) (read-set v.caches core.0 x cache no_cache there)
            ∙ by_number x core.0
            (λ b. copy_of (if b then cache else get_or v.caches x no_cache) other ≡ copies_at v other x)
            (λ same. others other within apart ∙ ap (λ y. copies_at v other y) (sym same)) (λ differs. refl);
      })
      line reached (ready stands) all
    where
      new : View
      new = stepped v local entry channels core cache log

      sized : IsSized v new
      sized = record { exclusive = refl; lines = refl; cores = length-set v.caches core.0 cache }

      ready : LineStands (length v.caches) entry channels
          (with_copy_at (copies_at v local) core.0 (copy_of cache local))
          line
          → LineStands (length v.caches) (entry_at new local) (channels_at new local) (copies_at new local) line
      ready stands =
          line_as (length v.caches) (entry_at new local) (channels_at new local)
          (with_copy_at (copies_at v local) core.0 (copy_of cache local)) (copies_at new local) line
          (λ x below.
          ap (λ (s : CoreCacheView). copy_of s local) (read-set v.caches core.0 x cache no_cache there)
          ∙ by_number x core.0
          (λ b. copy_of (if b then cache else get_or v.caches x no_cache) local
          ≡ (if b then copy_of cache local else copies_at v local x))
          (λ same. refl) (λ differs. refl))
          (rw (entry_is v local shaped inside entry, channels_are v local shaped inside channels) stands)

  -- The same where the entry stays.
  pub by_cache : (channels : LineChannels) (core : CoreId) (cache : CoreCacheView) (log : List Entry) → core.0
      < length v.caches
      → ((other : Local) → other.0 < v.lines.lines → other.0 ≢ local.0
      → copy_of cache other ≡ copy_of (cache_at v core) other)
      → (line : Line) → Reached v.exclusive (length v.caches) line
      → LineStands (length v.caches) (entry_at v local) channels
      (with_copy_at (copies_at v local) core.0 (copy_of cache local)) line
      → AreReached (record (with_channels (with_cache v core cache) local channels) { log = log })
  by_cache channels core cache log there others line reached stands =
      subst (λ entries. AreReached (record (with_channels (with_cache v core cache) local channels) {
        entries = entries;
        log = log;
      })) (set-get_or v.entries local.0 no_entry)
      (by_step (entry_at v local) channels core cache log there others line reached stands)

  -- The same where the line's channels stay as well.
  pub by_copy : (core : CoreId) (cache : CoreCacheView) (log : List Entry) → core.0 < length v.caches
      → ((other : Local) → other.0 < v.lines.lines → other.0 ≢ local.0
      → copy_of cache other ≡ copy_of (cache_at v core) other)
      → (line : Line) → Reached v.exclusive (length v.caches) line
      → LineStands (length v.caches) (entry_at v local) (channels_at v local)
      (with_copy_at (copies_at v local) core.0 (copy_of cache local)) line
      → AreReached (record (with_cache v core cache) { log = log })
  by_copy core cache log there others line reached stands =
      subst (λ channels. AreReached (record (with_cache v core cache) { channels = channels; log = log }))
      (set-get_or v.channels local.0 (empty_line 0))
      (by_cache (channels_at v local) core cache log there others line reached stands)

  -- The same where no core's copy changes.
  pub by_entry : (entry : DirEntry) (channels : LineChannels) → (line : Line)
      → Reached v.exclusive (length v.caches) line
      → LineStands (length v.caches) entry channels (copies_at v local) line
      → AreReached (with_channels (with_entry v local entry) local channels)
  by_entry entry channels line reached stands =
      frame v new local (record { exclusive = refl; lines = refl; cores = refl })
      (λ other within apart. record {
        entry = get_or-set_other v.entries local.0 other.0 entry no_entry apart;
        channels = get_or-set_other v.channels local.0 other.0 channels (empty_line 0) apart;
        copies = λ x below. refl;
      })
      line reached (rw (entry_is v local shaped inside entry, channels_are v local shaped inside channels) stands) all
    where
      new : View
      new = with_channels (with_entry v local entry) local channels

-- A core's cache with the same copies leaves the lines as they stand: whatever its registers, tags and counts are.
pub by_same_copies : (v : View) (core : CoreId) (cache : CoreCacheView) → core.0 < length v.caches
    → ((other : Local) → copy_of cache other ≡ copy_of (cache_at v core) other) → AreReached v
    → AreReached (with_cache v core cache)
by_same_copies v core cache there same all other within =
    let before = all other within in (
      before.0,
      subst (λ n. Reached v.exclusive n before.0) (sym (length-set v.caches core.0 cache)) before.1,
      subst (λ n. LineStands n (entry_at v other) (channels_at v other)
          (copies_at (with_cache v core cache) other) before.0) (sym (length-set v.caches core.0 cache))
          (line_as (length v.caches) (entry_at v other) (channels_at v other) (copies_at v other)
          (copies_at (with_cache v core cache) other) before.0
          (λ x below.
          ap (λ (s : CoreCacheView). copy_of s other) (read-set v.caches core.0 x cache no_cache there)
          ∙ by_number x core.0
          (λ b. copy_of (if b then cache else get_or v.caches x no_cache) other ≡ copies_at v other x)
          (λ here. same other ∙ ap (λ y. copies_at v other y) (sym here)) (λ differs. refl)) before.2),
    )
