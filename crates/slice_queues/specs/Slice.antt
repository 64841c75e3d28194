-- What waits in the channels of the lines of one slice.
use Rattle.std.specs.Prelude.{◌≡◌, ◌≢◌, ℕ, ◌/◌, ◌%◌, ◌<◌, ◌==◌, ◌++◌, if◌then◌else◌, List, [], ◌∷◌, length, drop}
use Rattle.std.specs.Prelude.{replicate, slice_set, slice_index_or, Bool}
use Rattle.address_map.specs.declared.address.LineAddr.{LineAddr}
use Rattle.slice_queues.specs.declared.channel.Pick.{Pick}
use Rattle.slice_queues.specs.declared.message.Message.{Message}
use Rattle.slice_queues.specs.Pick.{line_of, channel_of}
use Rattle.slice_queues.specs.Line.{LineChannels, messages_at, room_of, HasChannel, after_send, after_take, empty_line}

-- the channels of each line, by its place in the slice; which slice it is; and how many slices the lines are dealt
-- out to, in turn
pub record SliceChannels : Type 0 where
  pub lines : List LineChannels
  pub slice : ℕ
  pub slices : ℕ

-- the line belongs to this slice
abbrev pub is_of_slice : SliceChannels → LineAddr → Bool
is_of_slice queues line = line.0 % queues.slices == queues.slice

-- the line belongs to this slice, and is there
abbrev pub HasLine : SliceChannels → LineAddr → Type 0
HasLine queues line = (line.0 % queues.slices ≡ queues.slice) × (line.0 / queues.slices < length queues.lines)

-- the channels of the line at a place of the slice, none where it isn't there
abbrev pub at_local : SliceChannels → ℕ → LineChannels
at_local queues local = slice_index_or queues.lines local (empty_line 0)

-- the slice with the channels of the line at this place changed
abbrev pub with_local : SliceChannels → ℕ → LineChannels → SliceChannels
with_local queues local channels = record queues { lines = slice_set queues.lines local channels }

-- the place of a line of the memory in its slice
abbrev pub local_of : SliceChannels → LineAddr → ℕ
local_of queues line = line.0 / queues.slices

-- the same for a line of the memory
abbrev pub line_at : SliceChannels → LineAddr → LineChannels
line_at queues line = at_local queues (local_of queues line)

abbrev pub with_line : SliceChannels → LineAddr → LineChannels → SliceChannels
with_line queues line = with_local queues (local_of queues line)

-- the messages that wait at a pick, the oldest first; none where it names a line or a core that isn't there
abbrev pub messages_in : SliceChannels → Pick → List Message
messages_in queues pick =
    if is_of_slice queues (line_of pick) then
    messages_at (line_at queues (line_of pick)) (channel_of pick)
    else
    []

-- the slice has the line of this pick, and the line has its channel
abbrev pub HasPick : SliceChannels → Pick → Type 0
HasPick queues pick =
    HasLine queues (line_of pick) × HasChannel (line_at queues (line_of pick)) (channel_of pick)

-- the channel of the pick takes another message
abbrev pub HasRoomIn : SliceChannels → Pick → Type 0
HasRoomIn queues pick = length (messages_in queues pick) < room_of (channel_of pick)

-- the slice once the message is sent: its line is as after the send
abbrev pub after_send_in : SliceChannels → Pick → Message → SliceChannels
after_send_in queues pick message =
    with_line queues (line_of pick) (after_send (line_at queues (line_of pick)) (channel_of pick) message)

-- the slice without the oldest message at the pick; the slice itself where none waits there
abbrev pub after_take_in : SliceChannels → Pick → SliceChannels
after_take_in queues pick =
    if is_of_slice queues (line_of pick) then
    with_line queues (line_of pick) (after_take (line_at queues (line_of pick)) (channel_of pick))
    else
    queues

-- the message went after those at the pick, and all other picks have what they had
pub record SendsOnlyIn (old new : SliceChannels) (pick : Pick) (message : Message) : Type 0 where
  pub appended : messages_in new pick ≡ messages_in old pick ++ message ∷ []
  pub others : (other : Pick) → other ≢ pick → messages_in new other ≡ messages_in old other

-- the pick lost its oldest message, where it had one, and all other picks have what they had
pub record TakesOnlyIn (old new : SliceChannels) (pick : Pick) : Type 0 where
  pub rest : messages_in new pick ≡ drop 1 (messages_in old pick)
  pub others : (other : Pick) → other ≢ pick → messages_in new other ≡ messages_in old other

-- no message waits anywhere in the slice
abbrev pub IsEmptySlice : SliceChannels → Type 0
IsEmptySlice queues = (pick : Pick) → messages_in queues pick ≡ []

-- a slice of this many lines, each of this many cores, in which no message waits
abbrev pub empty_slice : ℕ → ℕ → ℕ → ℕ → SliceChannels
empty_slice lines cores slice slices =
    record { lines = replicate lines (empty_line cores); slice = slice; slices = slices }
