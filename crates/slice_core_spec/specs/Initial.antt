-- What a slice begins with, by its machine's configuration.
use Rattle.std.specs.Prelude.{◌≡◌, ℕ, ◌^◌, ◌<◌, List, length, slice_index, slice_index_or}
use Rattle.address_map.specs.Locator.{Lines, word_at}
use Rattle.address_map.specs.Words.{initial_value}
use Rattle.address_map.specs.declared.address.Local.{Local}
use Rattle.address_map.specs.declared.block.Block.{Block}
use Rattle.address_map.specs.declared.config.Config.{Config}
use Rattle.directory_table.specs.declared.state.DirEntry.{DirEntry}
use Rattle.slice_core_cache.specs.CoreCache.{CoreCacheView, new_cache}
use Rattle.mshr_file.specs.Miss.{Bound}
use Rattle.slice_core_spec.specs.View.{no_entry, no_cache}

-- the block has the initial values of the line's words, of 64 bits each
pub record IsInitialBlock (c : Config) (own : Lines) (local : Local) (block : Block) : Type 0 where
  pub size : length block.words ≡ 8
  pub words : (i : ℕ) → i < 8 → slice_index block.words i ≡ initial_value c.init (word_at own local (record { 0 = i }))
  pub fits : (i : ℕ) → i < 8 → slice_index block.words i < 2 ^ 64

-- a line that no core has, with this home copy
abbrev pub unowned_entry : Block → DirEntry
unowned_entry block = record no_entry { home = block }

-- `count` of the slice's lines, with their initial values, which no core has yet
pub record AreInitialEntries (c : Config) (own : Lines) (count : ℕ) (entries : List DirEntry) : Type 0 where
  pub count_is : length entries ≡ count
  pub each : (local : ℕ) → local < count
      → (block : Block) × IsInitialBlock c own (record { 0 = local }) block
      × (slice_index_or entries local no_entry ≡ unowned_entry block)

-- `count` cores, none of which has asked for anything yet
pub record AreNewCaches (c : Config) (bound : Bound) (slice count : ℕ) (caches : List CoreCacheView) : Type 0 where
  pub count_is : length caches ≡ count
  pub each : (core : ℕ) → core < count → slice_index_or caches core no_cache ≡ new_cache c bound slice core
