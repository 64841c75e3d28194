-- What every core of a slice may read is what was last performed.
use Rattle.std.specs.Prelude.{◌≡◌, ◌<◌, length, Some, IsTrue}
use Rattle.address_map.specs.declared.address.CoreId.{CoreId}
use Rattle.address_map.specs.declared.address.Local.{Local}
use Rattle.address_map.specs.declared.block.Block.{Block}
use Rattle.cache_table.specs.CopyState.{is_readable}
use Rattle.directory_table.specs.Law.{is_named}
use Rattle.protocol_coherence.specs.Values.{is_at_home}
use Rattle.slice_core_cache.specs.CoreCache.{copy_of, state_of}
use Rattle.slice_core_theory.specs.Blocks.{AreReachedWith, IsNewest}
use Rattle.slice_core_spec.specs.View.{View, channels_at, entry_at, cache_at}
use Rattle.slice_log.specs.Log.{IsLegal, initially}
use Rattle.slice_queues.specs.Line.{core_at}
use Rattle.slice_queues.specs.declared.message.DataMessage.{DataMessage}
use Rattle.slice_queues.specs.declared.message.DataMessage.TheVariants as data_messages
use Rattle.slice_queues.specs.declared.message.RequestMessage.TheVariants as request_messages

-- the block that data carry
abbrev pub carried_block : DataMessage → Block
carried_block (data_messages.Data block acks) = block
carried_block (data_messages.DataE block) = block

-- Each copy that may be read has the values that the log gives, and so has the home copy of a line that no core has or
-- that is shared. So have the blocks under way: the data that wait for a core, the block that the line's owner writes
-- back with its PutM, and the block on its way home.
pub record HasNewest (v : View) : Type 0 where
  pub copies : (local : Local) (core : CoreId) → local.0 < v.lines.lines → core.0 < length v.caches
      → IsTrue (is_readable (state_of (cache_at v core) local))
      → IsNewest v local (copy_of (cache_at v core) local).block
  pub home : (local : Local) → local.0 < v.lines.lines → IsTrue (is_at_home (entry_at v local).state)
      → IsNewest v local (entry_at v local).home
  pub arriving : (local : Local) (core : CoreId) (message : DataMessage) → local.0 < v.lines.lines
      → core.0 < length v.caches → (core_at (channels_at v local) core.0).data ≡ Some message
      → IsNewest v local (carried_block message)
  pub given_up : (local : Local) (core : CoreId) (block : Block) → local.0 < v.lines.lines → core.0 < length v.caches
      → IsTrue (is_named (entry_at v local).owner core.0)
      → (core_at (channels_at v local) core.0).request ≡ Some (request_messages.PutM block) → IsNewest v local block
  pub coming_home : (local : Local) (block : Block) → local.0 < v.lines.lines
      → (channels_at v local).home ≡ Some block → IsNewest v local block

-- Each line is reached, blocks and all, and the log is legal: each entry's reply is what the entries before it give.
pub record IsFaithful (v : View) : Type 0 where
  pub reached : AreReachedWith v
  pub legal : IsLegal (initially v.init) v.log
