-- A slice as one value: the directory, the channels, the cores and the log.
use Rattle.std.specs.Prelude.{◌≡◌, ℕ, ◌<◌, Bool, List, [], length, slice_index_or, slice_set, Option, Some, None, All}
use Rattle.std.specs.Prelude.{IfSome}
use Rattle.address_map.specs.Locator.{Lines, word_at}
use Rattle.address_map.specs.declared.address.CoreId.{CoreId}
use Rattle.address_map.specs.declared.address.Local.{Local}
use Rattle.address_map.specs.declared.address.WordAddr.{WordAddr}
use Rattle.address_map.specs.declared.block.Block.{Block}
use Rattle.address_map.specs.declared.config.PolicyKind.TheVariants as policy_kinds
use Rattle.cache_array.specs.Array.{empty_array}
use Rattle.directory_table.specs.declared.state.DirEntry.{DirEntry}
use Rattle.directory_table.specs.declared.state.DirState.TheVariants as dir_states
use Rattle.mshr_file.specs.Miss.Bound.{tags}
use Rattle.slice_core_cache.specs.Copy.{zero_block, word_at as word_in}
use Rattle.slice_core_cache.specs.CoreCache.{CoreCacheView, copy_of, IsCoreCacheQuiet}
use Rattle.slice_log.specs.declared.entry.Entry.{Entry}
use Rattle.slice_queues.specs.Line.{LineChannels, empty_line, IsEmptyLine}
use Rattle.writeback_buffer.specs.Buffer.{empty_buffer}

pub record View : Type 0 where
  -- by local line: the directory's entry with the home copy, and what waits in the line's channels
  pub entries : List DirEntry
  pub channels : List LineChannels
  -- by core
  pub caches : List CoreCacheView
  -- what was performed, in order
  pub log : List Entry
  -- the configured initial values and counters of this slice
  pub init : List (WordAddr × ℕ)
  pub counters : List WordAddr
  -- which lines of the memory are the slice's
  pub lines : Lines
  -- whether a core that asks to read a line that no core has gets the only copy
  pub exclusive : Bool

-- a line that no core has, of zeros
abbrev pub no_entry : DirEntry
no_entry = record { home = zero_block; sharers = 0; owner = None; state = dir_states.I }

-- a core that isn't there has nothing
abbrev pub no_cache : CoreCacheView
no_cache = record {
  array = empty_array 0 0 policy_kinds.Lru;
  buffer = empty_buffer 0;
  misses = [];
  bound = tags;
  tags = [];
  accepted = 0;
  generator = [];
}

abbrev pub entry_at : View → Local → DirEntry
entry_at v local = slice_index_or v.entries local.0 no_entry

abbrev pub channels_at : View → Local → LineChannels
channels_at v local = slice_index_or v.channels local.0 (empty_line 0)

abbrev pub cache_at : View → CoreId → CoreCacheView
cache_at v core = slice_index_or v.caches core.0 no_cache

-- the slice with another entry and other channels of one line, and with another cache of one core
abbrev pub with_entry : View → Local → DirEntry → View
with_entry v local entry = record v { entries = slice_set v.entries local.0 entry }

abbrev pub with_channels : View → Local → LineChannels → View
with_channels v local channels = record v { channels = slice_set v.channels local.0 channels }

abbrev pub with_cache : View → CoreId → CoreCacheView → View
with_cache v core cache = record v { caches = slice_set v.caches core.0 cache }

-- the first word of a line
abbrev pub first_word : View → Local → ℕ
first_word v local = (word_at v.lines local (record { 0 = 0 })).0

-- There is an entry and there are channels for each of the slice's lines, and channels in each for each core.
pub record IsShaped (v : View) : Type 0 where
  pub entries : length v.entries ≡ v.lines.lines
  pub lines : length v.channels ≡ v.lines.lines
  pub cores : (local : Local) → local.0 < v.lines.lines → length (channels_at v local).cores ≡ length v.caches

-- no message, no access that waits, no line being written back and no reply that isn't handed out
pub record IsQuiet (v : View) : Type 0 where
  pub messages : (local : Local) → IsEmptyLine (channels_at v local)
  pub caches : All IsCoreCacheQuiet v.caches

-- the block with the line's newest data where the slice is quiet: the owner's copy where there is one, or else the home
-- copy
abbrev pub newest_block : View → Local → Block
newest_block v local = by_owner (entry_at v local).owner
  where
    by_owner : Option CoreId → Block
    by_owner (Some owner) = (copy_of (cache_at v owner) local).block
    by_owner None = (entry_at v local).home

-- the word of a quiet slice at a place of a line
abbrev pub word_now : View → Local → ℕ → ℕ
word_now v local offset = word_in (newest_block v local) offset

-- an owner of the line is a core
abbrev pub IsOwned : View → Local → Type 0
IsOwned v local = IfSome (entry_at v local).owner (λ owner. owner.0 < length v.caches)
