-- A step on one line of a slice leaves the blocks of its other lines as they stand.
use Rattle.std.proofs.Common.{◌≡◌, ◌≢◌, ℕ, ◌<◌, Bool, if◌then◌else◌, List, length, get_or, set, inl, inr, refl, sym, ap}
use Rattle.std.proofs.Common.{◌∙◌, subst}
use Rattle.std.proofs.lemmas.Bool.{cases_eq}
use Rattle.std.proofs.lemmas.List.{get_or-set_other, length-set, set-get_or}
use Rattle.address_map.specs.declared.address.CoreId.{CoreId}
use Rattle.address_map.specs.declared.address.Local.{Local}
use Rattle.address_map.specs.declared.block.Block.{Block}
use Rattle.directory_table.specs.declared.state.DirEntry.{DirEntry}
use Rattle.protocol_coherence.specs.Line.{Line}
use Rattle.protocol_coherence.specs.LineSteps.{Step, after}
use Rattle.protocol_coherence.specs.Values.{Blocks, ReachedWith, blocks_after, further_with, newest_after}
use Rattle.slice_core_cache.specs.CoreCache.{CoreCacheView, copy_of}
use Rattle.slice_core_cache.specs.declared.copy.CacheCopy.{CacheCopy}
use Rattle.slice_core_theory.proofs.Frame.{by_number, channels_are, entry_is, line_as, read-set, same_local, stepped}
use Rattle.slice_core_theory.proofs.Frame.{with_copy_at}
use Rattle.slice_core_theory.specs.Blocks.{AreReachedWith, BlocksStand, CoreBlocksStand, HasValues, IsReachedWith}
use Rattle.slice_core_theory.specs.Blocks.{LineReachedWith}
use Rattle.slice_core_theory.specs.Stands.{LineStands, copies_at}
use Rattle.slice_core_spec.specs.View.{View, IsShaped, channels_at, entry_at, first_word, no_entry, no_cache, cache_at}
use Rattle.slice_core_spec.specs.View.{with_channels, with_entry, with_cache}
use Rattle.slice_log.specs.Log.{initially}
use Rattle.slice_log.specs.declared.entry.Entry.{Entry}
use Rattle.slice_queues.specs.Line.{LineChannels, core_at, empty_line}

-- Only the copies of the cores count.
pub blocks_as : (cores : ℕ) (entry : DirEntry) (channels : LineChannels) (copy now : ℕ → CacheCopy) (blocks : Blocks)
    → ((c : ℕ) → c < cores → now c ≡ copy c) → BlocksStand cores entry channels copy blocks
    → BlocksStand cores entry channels now blocks
blocks_as cores entry channels copy now blocks same stand = record {
  core = λ c below. subst (λ x. CoreBlocksStand x (core_at channels c) (blocks.copy c) (blocks.arriving c)
      (blocks.put c))
      (sym (same c below)) (stand.core c below);
  home = stand.home;
  mail = stand.mail;
}

pub reached_as : (exclusive : Bool) (cores : ℕ) (init : ℕ → ℕ) (log : List Entry) (first : ℕ) (entry : DirEntry)
    (channels : LineChannels) (copy now : ℕ → CacheCopy) → ((c : ℕ) → c < cores → now c ≡ copy c)
    → LineReachedWith exclusive cores init log first entry channels copy
    → LineReachedWith exclusive cores init log first entry channels now
reached_as exclusive cores init log first entry channels copy now same line = record {
  line = line.line;
  blocks = line.blocks;
  newest = line.newest;
  reached = line.reached;
  has_values = line.has_values;
  stands = line_as cores entry channels copy now line.line same line.stands;
  blocks_stand = blocks_as cores entry channels copy now line.blocks same line.blocks_stand;
}

-- A line that the machine reaches continues by a step, whose newest block has what the log gives then.
pub reached_further : (exclusive : Bool) (cores : ℕ) (init : ℕ → ℕ) (log : List Entry) (first : ℕ) (entry : DirEntry)
    (channels : LineChannels) (copy : ℕ → CacheCopy) (line : Line) (blocks : Blocks) (newest : Block)
    → ReachedWith exclusive cores line blocks newest → (step : Step exclusive cores line) → (written : Block)
    → HasValues init log first (newest_after step written newest) → LineStands cores entry channels copy (after step)
    → BlocksStand cores entry channels copy (blocks_after step written blocks)
    → LineReachedWith exclusive cores init log first entry channels copy
reached_further exclusive cores init log first entry channels copy line blocks newest reached step written values stands
    blocks_stand = record {
      line = after step;
      blocks = blocks_after step written blocks;
      newest = newest_after step written newest;
      reached = further_with reached step written;
      has_values = values;
      stands = stands;
      blocks_stand = blocks_stand;
    }

-- The log says of a line's blocks what it said.
abbrev pub LogKeeps : View → List Entry → Local → Type 0
LogKeeps v log other = (block : Block) → HasValues (initially v.init) v.log (first_word v other) block
    → HasValues (initially v.init) log (first_word v other) block

-- A line with what it had is still reached, where the log says of it what it said.
pub reached_alike : (exclusive : Bool) (cores : ℕ) (init : ℕ → ℕ) (log more : List Entry) (first : ℕ)
    (entry : DirEntry) (channels : LineChannels) (copy : ℕ → CacheCopy)
    → ((block : Block) → HasValues init log first block → HasValues init more first block)
    → LineReachedWith exclusive cores init log first entry channels copy
    → LineReachedWith exclusive cores init more first entry channels copy
reached_alike exclusive cores init log more first entry channels copy keeps line = record {
  line = line.line;
  blocks = line.blocks;
  newest = line.newest;
  reached = line.reached;
  has_values = keeps line.newest line.has_values;
  stands = line.stands;
  blocks_stand = line.blocks_stand;
}

module _ (v : View) (local : Local) (shaped : IsShaped v) (inside : local.0 < v.lines.lines) (all : AreReachedWith v)
    (log : List Entry)
    (keeps : (other : Local) → other.0 < v.lines.lines → other.0 ≢ local.0 → LogKeeps v log other) where
  module _ (entry : DirEntry) (channels : LineChannels) (core : CoreId) (cache : CoreCacheView)
      (there : core.0 < length v.caches)
      (others : (other : Local) → other.0 < v.lines.lines → other.0 ≢ local.0
      → copy_of cache other ≡ copy_of (cache_at v core) other) where
    new : View
    new = stepped v local entry channels core cache log

    sized : length v.caches ≡ length (set v.caches core.0 cache)
    sized = sym (length-set v.caches core.0 cache)

    copies_there : (other : Local) (x : ℕ)
        → copies_at (stepped v local entry channels core cache log) other x
        ≡ with_copy_at (copies_at v other) core.0 (copy_of cache other) x
    copies_there other x =
        ap (λ (s : CoreCacheView). copy_of s other) (read-set v.caches core.0 x cache no_cache there)
        ∙ by_number x core.0
        (λ b. copy_of (if b then cache else get_or v.caches x no_cache) other
        ≡ (if b then copy_of cache other else copies_at v other x))
        (λ same. refl) (λ differs. refl)

    copies_same : (other : Local) → other.0 < v.lines.lines → other.0 ≢ local.0 → (x : ℕ)
        → copies_at (stepped v local entry channels core cache log) other x ≡ copies_at v other x
    copies_same other within apart x =
        copies_there other x
        ∙ by_number x core.0 (λ b. (if b then copy_of cache other else copies_at v other x) ≡ copies_at v other x)
        (λ same. others other within apart ∙ ap (λ y. copies_at v other y) (sym same)) (λ differs. refl)

    -- A step that changes one line's entry, its channels, one core's copy of it, and the log: the lines are reached if
    -- that line is.
    pub by_step_with : LineReachedWith v.exclusive (length v.caches) (initially v.init) log (first_word v local) entry
        channels (with_copy_at (copies_at v local) core.0 (copy_of cache local))
        → AreReachedWith (stepped v local entry channels core cache log)
    by_step_with line other within = elim (cases_eq other.0 local.0) [
      | inl same ↦
          subst (λ l. IsReachedWith (stepped v local entry channels core cache log) l) (sym (same_local other local
          same))
          (subst (λ n. LineReachedWith v.exclusive n (initially v.init) log (first_word v local)
          (get_or (set v.entries local.0 entry) local.0 no_entry)
          (get_or (set v.channels local.0 channels) local.0 (empty_line 0))
          (copies_at (stepped v local entry channels core cache log) local)) sized
          (reached_as v.exclusive (length v.caches) (initially v.init) log (first_word v local) _ _
          (with_copy_at (copies_at v local) core.0 (copy_of cache local))
          (copies_at (stepped v local entry channels core cache log) local)
          (λ x below. copies_there local x)
          (rw (entry_is v local shaped inside entry, channels_are v local shaped inside channels) line)))
      | inr apart ↦
          subst (λ n. LineReachedWith v.exclusive n (initially v.init) log (first_word v other)
          (get_or (set v.entries local.0 entry) other.0 no_entry)
          (get_or (set v.channels local.0 channels) other.0 (empty_line 0))
          (copies_at (stepped v local entry channels core cache log) other)) sized
          (reached_as v.exclusive (length v.caches) (initially v.init) log (first_word v other) _ _ (copies_at v other)
          (copies_at (stepped v local entry channels core cache log) other)
          (λ x below. copies_same other within apart x)
          (rw (
            get_or-set_other v.entries local.0 other.0 entry no_entry apart,
            get_or-set_other v.channels local.0 other.0 channels (empty_line 0) apart,
          )
          (reached_alike v.exclusive (length v.caches) (initially v.init) v.log log (first_word v other) _ _ _
          (keeps other within apart) (all other within))))
    ]

  -- The same where the entry stays.
  pub by_cache_with : (channels : LineChannels) (core : CoreId) (cache : CoreCacheView) → core.0 < length v.caches
      → ((other : Local) → other.0 < v.lines.lines → other.0 ≢ local.0
      → copy_of cache other ≡ copy_of (cache_at v core) other)
      → LineReachedWith v.exclusive (length v.caches) (initially v.init) log (first_word v local) (entry_at v local)
      channels (with_copy_at (copies_at v local) core.0 (copy_of cache local))
      → AreReachedWith (record (with_channels (with_cache v core cache) local channels) { log = log })
  by_cache_with channels core cache there others line =
      subst (λ entries. AreReachedWith (record (with_channels (with_cache v core cache) local channels) {
        entries = entries;
        log = log;
      })) (set-get_or v.entries local.0 no_entry)
      (by_step_with (entry_at v local) channels core cache there others line)

  -- The same where the line's channels stay as well.
  pub by_copy_with : (core : CoreId) (cache : CoreCacheView) → core.0 < length v.caches
      → ((other : Local) → other.0 < v.lines.lines → other.0 ≢ local.0
      → copy_of cache other ≡ copy_of (cache_at v core) other)
      → LineReachedWith v.exclusive (length v.caches) (initially v.init) log (first_word v local) (entry_at v local)
      (channels_at v local) (with_copy_at (copies_at v local) core.0 (copy_of cache local))
      → AreReachedWith (record (with_cache v core cache) { log = log })
  by_copy_with core cache there others line =
      subst (λ channels. AreReachedWith (record (with_cache v core cache) { channels = channels; log = log }))
      (set-get_or v.channels local.0 (empty_line 0))
      (by_cache_with (channels_at v local) core cache there others line)

-- The same where no core's copy and nothing of the log changes.
pub by_entry_with : (v : View) (local : Local) → IsShaped v → local.0 < v.lines.lines → AreReachedWith v
    → (entry : DirEntry) (channels : LineChannels)
    → LineReachedWith v.exclusive (length v.caches) (initially v.init) v.log (first_word v local) entry channels
    (copies_at v local)
    → AreReachedWith (with_channels (with_entry v local entry) local channels)
by_entry_with v local shaped inside all entry channels line other within = elim (cases_eq other.0 local.0) [
  | inl same ↦
      subst (λ l. IsReachedWith (with_channels (with_entry v local entry) local channels) l)
      (sym (same_local other local same))
      (rw (
        entry_is v local shaped inside entry,
        channels_are v local shaped inside channels,
      ) line)
  | inr apart ↦
      rw (
        get_or-set_other v.entries local.0 other.0 entry no_entry apart,
        get_or-set_other v.channels local.0 other.0 channels (empty_line 0) apart,
      ) (all other within)
]

-- A core's cache with the same copies leaves the lines as they stand: whatever its registers, tags and counts are.
pub by_same_copies_with : (v : View) (core : CoreId) (cache : CoreCacheView) → core.0 < length v.caches
    → ((other : Local) → copy_of cache other ≡ copy_of (cache_at v core) other) → AreReachedWith v
    → AreReachedWith (with_cache v core cache)
by_same_copies_with v core cache there same all other within =
    subst (λ n. LineReachedWith v.exclusive n (initially v.init) v.log (first_word v other) (entry_at v other)
    (channels_at v other) (copies_at (with_cache v core cache) other)) (sym (length-set v.caches core.0 cache))
    (reached_as v.exclusive (length v.caches) (initially v.init) v.log (first_word v other) (entry_at v other)
    (channels_at v other) (copies_at v other) (copies_at (with_cache v core cache) other)
    (λ x below.
    ap (λ (s : CoreCacheView). copy_of s other) (read-set v.caches core.0 x cache no_cache there)
    ∙ by_number x core.0 (λ b. copy_of (if b then cache else get_or v.caches x no_cache) other ≡ copies_at v other x)
    (λ here. same other ∙ ap (λ y. copies_at v other y) (sym here)) (λ differs. refl))
    (all other within))
