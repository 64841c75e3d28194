-- What is seen of a line of a slice. Of one that isn't the slice's nothing is held.
use Rattle.std.specs.Prelude.{Option, Some, None}
use Rattle.address_map.specs.Locator.{local_at}
use Rattle.address_map.specs.declared.address.CoreId.{CoreId}
use Rattle.address_map.specs.declared.address.LineAddr.{LineAddr}
use Rattle.address_map.specs.declared.address.Local.{Local}
use Rattle.cache_table.specs.declared.state.CopyState.{CopyState}
use Rattle.cache_table.specs.declared.state.CopyState.TheVariants as copy_states
use Rattle.directory_table.specs.declared.state.DirState.{DirState}
use Rattle.directory_table.specs.declared.state.DirState.TheVariants as dir_states
use Rattle.slice_core.specs.Facts.{front_at}
use Rattle.slice_core_cache.specs.CoreCache.{state_of}
use Rattle.slice_core_spec.specs.View.{View, entry_at, cache_at}
use Rattle.slice_queues.specs.Pick.{channel_of, line_of}
use Rattle.slice_queues.specs.declared.channel.Pick.{Pick}
use Rattle.slice_queues.specs.declared.message.Message.{Message}

-- the state of a core's copy of a line
abbrev pub copy_at : View → LineAddr → CoreId → CopyState
copy_at v line core = by_line (local_at v.lines line.0)
  where
    by_line : Option Local → CopyState
    by_line None = copy_states.I
    by_line (Some local) = state_of (cache_at v core) local

-- the state of the directory's entry of a line
abbrev pub entry_of : View → LineAddr → DirState
entry_of v line = by_line (local_at v.lines line.0)
  where
    by_line : Option Local → DirState
    by_line None = dir_states.I
    by_line (Some local) = (entry_at v local).state

-- the message in front of a channel
abbrev pub message_at : View → Pick → Option Message
message_at v pick = front_at v (local_at v.lines (line_of pick).0) (channel_of pick)
