-- Where the blocks of a slice's line are, and that they are those of the protocol's machine.
use Rattle.std.specs.Prelude.{◌≡◌, ℕ, ◌+◌, ◌<◌, Bool, true, false, List, length, slice_index, Option, Some, None}
use Rattle.std.specs.Prelude.{unwrap_or}
use Rattle.address_map.specs.declared.address.Local.{Local}
use Rattle.address_map.specs.declared.block.Block.{Block}
use Rattle.cache_table.specs.declared.state.CopyState.{CopyState}
use Rattle.cache_table.specs.declared.state.CopyState.TheVariants as copy_states
use Rattle.directory_table.specs.declared.state.DirEntry.{DirEntry}
use Rattle.protocol_coherence.specs.Line.{Line}
use Rattle.protocol_coherence.specs.Values.{Blocks, ReachedWith}
use Rattle.slice_core_cache.specs.declared.copy.CacheCopy.{CacheCopy}
use Rattle.slice_core_theory.specs.Stands.{LineStands, copies_at}
use Rattle.slice_core_spec.specs.Steps.{block_in}
use Rattle.slice_core_spec.specs.View.{View, channels_at, entry_at, first_word}
use Rattle.slice_log.specs.Log.{initially, value}
use Rattle.slice_log.specs.declared.entry.Entry.{Entry}
use Rattle.slice_queues.specs.Line.{CoreChannels, LineChannels, core_at}
use Rattle.slice_queues.specs.declared.message.DataMessage.{DataMessage}
use Rattle.slice_queues.specs.declared.message.DataMessage.TheVariants as data_messages

-- ---- one line

-- A copy in this state has a block of its line: it isn't gone, and doesn't wait for its first data.
abbrev pub has_block : CopyState → Bool
has_block copy_states.I = false
has_block copy_states.IS_D = false
has_block copy_states.IM_AD = false
has_block _ = true

-- the block of the data that wait, or this one where none do
abbrev pub block_of_data : Block → Option DataMessage → Block
block_of_data none None = none
block_of_data none (Some (data_messages.Data block acks)) = block
block_of_data none (Some (data_messages.DataE block)) = block

-- A core's copy has this block, the data that wait for it carry this one, and its PutM that one.
pub record CoreBlocksStand (copy : CacheCopy) (mail : CoreChannels) (kept arriving put : Block) : Type 0 where
  pub in_copy : has_block copy.state ≡ true → copy.block ≡ kept
  pub in_data : block_of_data arriving mail.data ≡ arriving
  pub in_put : block_in put mail.request ≡ put

-- The blocks of an entry, the channels and each core's copy of one line are these.
pub record BlocksStand (cores : ℕ) (entry : DirEntry) (channels : LineChannels) (copy : ℕ → CacheCopy) (blocks : Blocks)
    : Type 0 where
  pub core : (c : ℕ) → c < cores
      → CoreBlocksStand (copy c) (core_at channels c) (blocks.copy c) (blocks.arriving c) (blocks.put c)
  pub home : entry.home ≡ blocks.home
  pub mail : unwrap_or channels.home blocks.mail ≡ blocks.mail

-- The block has what the log gives: each of the eight words from the first one on has its value after the whole log.
pub record HasValues (init : ℕ → ℕ) (log : List Entry) (first : ℕ) (block : Block) : Type 0 where
  pub size : length block.words ≡ 8
  pub words : (i : ℕ) → i < 8 → slice_index block.words i ≡ value (init (first + i)) log (first + i)

-- An entry, the channels and each core's copy of one line are a line that the machine reaches, with its blocks; and the
-- machine's newest block has what the log gives.
pub record LineReachedWith (exclusive : Bool) (cores : ℕ) (init : ℕ → ℕ) (log : List Entry) (first : ℕ)
    (entry : DirEntry) (channels : LineChannels) (copy : ℕ → CacheCopy) : Type 0 where
  pub line : Line
  pub blocks : Blocks
  pub newest : Block
  pub reached : ReachedWith exclusive cores line blocks newest
  pub has_values : HasValues init log first newest
  pub stands : LineStands cores entry channels copy line
  pub blocks_stand : BlocksStand cores entry channels copy blocks

-- ---- the slice

-- the block has what the slice's log gives for the line
abbrev pub IsNewest : View → Local → Block → Type 0
IsNewest v local block = HasValues (initially v.init) v.log (first_word v local) block

-- The slice's line is one that the machine reaches, blocks and all.
abbrev pub IsReachedWith : View → Local → Type 0
IsReachedWith v local =
    LineReachedWith v.exclusive (length v.caches) (initially v.init) v.log (first_word v local) (entry_at v local)
    (channels_at v local) (copies_at v local)

-- Each of its lines is.
abbrev pub AreReachedWith : View → Type 0
AreReachedWith v = (local : Local) → local.0 < v.lines.lines → IsReachedWith v local
