-- What follows for a slice whose lines are lines of the protocol's machine.
use Rattle.std.specs.Prelude.{◌≡◌, ◌≢◌, ◌<◌, ◌≤◌, [], length, IsSome, IsTrue}
use Rattle.address_map.specs.declared.address.CoreId.{CoreId}
use Rattle.address_map.specs.declared.address.Local.{Local}
use Rattle.cache_array.specs.Array.{held_at as array_at}
use Rattle.cache_table.specs.CopyState.{is_readable, is_waiting, is_writer}
use Rattle.mshr_file.specs.Miss.{has_miss}
use Rattle.slice_answer.specs.declared.answer.Cell.{Cell}
use Rattle.slice_core_spec.specs.Plan.{plan_of}
use Rattle.slice_core_spec.specs.View.{View, channels_at, cache_at}
use Rattle.slice_core_cache.specs.CoreCache.{state_of}
use Rattle.slice_queues.specs.Line.{HasChannel, messages_at, room_of}
use Rattle.slice_queues.specs.declared.channel.Channel.{Channel}
use Rattle.slice_answer.specs.declared.answer.Delivery.TheVariants as deliveries

-- Where one core may write a line, no other core may read it.
abbrev pub HasOneWriter : View → Type 0
HasOneWriter v = (local : Local) (c d : CoreId) → local.0 < v.lines.lines → c.0 < length v.caches → d.0
    < length v.caches
    → IsTrue (is_writer (state_of (cache_at v c) local)) → IsTrue (is_readable (state_of (cache_at v d) local))
    → c.0 ≡ d.0

-- A copy that waits is in its core's array.
abbrev pub WaitsInArray : View → Type 0
WaitsInArray v = (core : CoreId) (local : Local) → core.0 < length v.caches → local.0 < v.lines.lines
    → IsTrue (is_waiting (state_of (cache_at v core) local)) → IsSome (array_at (cache_at v core).array local)

-- No message of a line is broken: each has a row, or waits; what its row sends has room; and none comes early.
abbrev pub NothingIsBroken : View → Type 0
NothingIsBroken v = (local : Local) (channel : Channel) (cell : Cell) → local.0 < v.lines.lines
    → plan_of v local channel ≢ deliveries.Broken cell

-- A copy waits exactly where its core has a miss register for the line.
abbrev pub WaitsForMisses : View → Type 0
WaitsForMisses v = (core : CoreId) (local : Local) → core.0 < length v.caches → local.0 < v.lines.lines
    → is_waiting (state_of (cache_at v core) local) ≡ has_miss (cache_at v core).misses local.0

-- No channel of a line has more messages than it takes: two forwarded ones, and one of any other kind. Each line has
-- channels for each core of the slice, and a message waits only in a channel of such cores: so what was asked for was
-- asked for by one of them, what waits is for one of them, and an acknowledgement is from one of them.
pub record HasBoundedChannels (v : View) : Type 0 where
  pub cores : (local : Local) → local.0 < v.lines.lines → length (channels_at v local).cores ≡ length v.caches
  pub room : (local : Local) (channel : Channel) → local.0 < v.lines.lines
      → length (messages_at (channels_at v local) channel) ≤ room_of channel
  pub known : (local : Local) (channel : Channel) → local.0 < v.lines.lines
      → messages_at (channels_at v local) channel ≢ [] → HasChannel (channels_at v local) channel
