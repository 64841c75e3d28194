-- What waits in the channels of one line.
use Rattle.std.specs.Prelude.{◌≡◌, ◌≢◌, ℕ, ◌<◌, ◌≤◌, ◌||◌, Bool, true, nat_lt, is_some, if◌then◌else◌, List, [], ◌∷◌}
use Rattle.std.specs.Prelude.{◌++◌, length, map, drop, slice_set, slice_index_or, replicate, Option, Some, None}
use Rattle.std.specs.List.{list_any, range_with_len}
use Rattle.address_map.specs.CoreSet.{has, with, without}
use Rattle.address_map.specs.declared.address.CoreId.{CoreId}
use Rattle.address_map.specs.declared.block.Block.{Block}
use Rattle.slice_queues.specs.declared.channel.Channel.{Channel}
use Rattle.slice_queues.specs.declared.channel.Channel.TheVariants as channels
use Rattle.slice_queues.specs.declared.message.Message.{Message}
use Rattle.slice_queues.specs.declared.message.Message.TheVariants as messages
use Rattle.slice_queues.specs.declared.message.RequestMessage.{RequestMessage}
use Rattle.slice_queues.specs.declared.message.ForwardedMessage.{ForwardedMessage}
use Rattle.slice_queues.specs.declared.message.ForwardedMessage.TheVariants as forwarded_messages
use Rattle.slice_queues.specs.declared.message.DataMessage.{DataMessage}

-- one core's channels: what it asks of the directory, and what waits for it. The acknowledgements that wait for it
-- are the set of their senders: bit c of `acks` is 1 where core c's waits, and else 0.
pub record CoreChannels : Type 0 where
  pub request : Option RequestMessage
  pub forwarded : List ForwardedMessage
  pub «data» : Option DataMessage
  pub acks : ℕ

-- a line's channels: each core's, and the block that waits for the directory
pub record LineChannels : Type 0 where
  pub cores : List CoreChannels
  pub home : Option Block

-- nothing waits
abbrev pub no_messages : CoreChannels
no_messages = record { request = None; forwarded = []; «data» = None; acks = 0 }

-- the channels of a core, all empty where there is no such core
abbrev pub core_at : LineChannels → ℕ → CoreChannels
core_at line c = slice_index_or line.cores c no_messages

-- a request waits in the core's channels, and so on
abbrev pub has_request : CoreChannels → Bool
has_request core = is_some core.request

abbrev pub has_forwarded : CoreChannels → Bool
has_forwarded core = nat_lt 0 (length core.forwarded)

abbrev pub has_data : CoreChannels → Bool
has_data core = is_some core.data

abbrev pub has_acks : CoreChannels → Bool
has_acks core = nat_lt 0 core.acks

-- some message waits in the core's channels
abbrev pub has_messages : CoreChannels → Bool
has_messages core = ((has_request core || has_forwarded core) || has_data core) || has_acks core

-- some message waits in a channel of the line
abbrev pub has_mail : LineChannels → Bool
has_mail line = is_some line.home || list_any has_messages line.cores

-- the line with this core's channels changed
abbrev pub with_core : LineChannels → ℕ → CoreChannels → LineChannels
with_core line c channels = record line { cores = slice_set line.cores c channels }

-- the messages of a channel that has room for one
abbrev pub request_messages : Option RequestMessage → List Message
request_messages None = []
request_messages (Some message) = messages.Request message ∷ []

abbrev pub data_messages : Option DataMessage → List Message
data_messages None = []
data_messages (Some message) = messages.Data message ∷ []

abbrev pub home_messages : Option Block → List Message
home_messages None = []
home_messages (Some block) = messages.Home block ∷ []

-- an acknowledgement says nothing but its sender, so it is there or not
abbrev pub ack_messages : Bool → List Message
ack_messages waits = if waits then messages.InvAck ∷ [] else []

-- the messages that wait in a channel, the oldest first
abbrev pub messages_at : LineChannels → Channel → List Message
messages_at line (channels.Req core) = request_messages (core_at line core.0).request
messages_at line (channels.Fwd core) = map messages.Forwarded (core_at line core.0).forwarded
messages_at line (channels.Data core) = data_messages (core_at line core.0).data
messages_at line (channels.Ack to from) = ack_messages (has (core_at line to.0).acks from.0)
messages_at line channels.Home = home_messages line.home

-- how many messages a channel takes
abbrev pub room_of : Channel → ℕ
room_of (channels.Req core) = 1
room_of (channels.Fwd core) = 2
room_of (channels.Data core) = 1
room_of (channels.Ack to from) = 1
room_of channels.Home = 1

-- the line has this channel: the cores that it names are there
abbrev pub HasChannel : LineChannels → Channel → Type 0
HasChannel line (channels.Req core) = core.0 < length line.cores
HasChannel line (channels.Fwd core) = core.0 < length line.cores
HasChannel line (channels.Data core) = core.0 < length line.cores
HasChannel line (channels.Ack to from) = (to.0 < length line.cores) × (from.0 < length line.cores)
HasChannel line channels.Home = Unit {0}

-- the channel is one of this core's
abbrev pub IsOfCore : Channel → CoreId → Type 0
IsOfCore (channels.Req of) core = of ≡ core
IsOfCore (channels.Fwd of) core = of ≡ core
IsOfCore (channels.Data of) core = of ≡ core
IsOfCore (channels.Ack to from) core = to ≡ core
IsOfCore channels.Home core = ⊥

-- the channel takes another message
abbrev pub HasRoom : LineChannels → Channel → Type 0
HasRoom line channel = length (messages_at line channel) < room_of channel

-- the message is of the kind that the channel carries
abbrev pub Carries : Channel → Message → Type 0
Carries (channels.Req core) (messages.Request message) = Unit {0}
Carries (channels.Fwd core) (messages.Forwarded message) = Unit {0}
Carries (channels.Data core) (messages.Data message) = Unit {0}
Carries (channels.Ack to from) messages.InvAck = Unit {0}
Carries channels.Home (messages.Home block) = Unit {0}
Carries channel message = ⊥

-- the line once the message is sent: it waits after the others of its channel
abbrev pub after_send : LineChannels → Channel → Message → LineChannels
after_send line (channels.Req core) (messages.Request message) =
    with_core line core.0 (record (core_at line core.0) { request = Some message })
after_send line (channels.Fwd core) (messages.Forwarded message) =
    with_core
    line
    core.0
    (record (core_at line core.0) { forwarded = (core_at line core.0).forwarded ++ message ∷ [] })
after_send line (channels.Data core) (messages.Data message) =
    with_core line core.0 (record (core_at line core.0) { «data» = Some message })
after_send line (channels.Ack to from) messages.InvAck =
    with_core
    line
    to.0
    (record (core_at line to.0) { acks = with (core_at line to.0).acks from.0 })
after_send line channels.Home (messages.Home block) = record line { home = Some block }
after_send line channel message = line

-- the line without the oldest message of the channel; the line itself where none waits there
abbrev pub after_take : LineChannels → Channel → LineChannels
after_take line (channels.Req core) =
    with_core line core.0 (record (core_at line core.0) { request = None })
after_take line (channels.Fwd core) =
    with_core
    line
    core.0
    (record (core_at line core.0) { forwarded = drop 1 (core_at line core.0).forwarded })
after_take line (channels.Data core) =
    with_core line core.0 (record (core_at line core.0) { «data» = None })
after_take line (channels.Ack to from) =
    with_core
    line
    to.0
    (record (core_at line to.0) { acks = without (core_at line to.0).acks from.0 })
after_take line channels.Home = record line { home = None }

-- the message went after those of its channel, and the other channels have what they had
pub record SendsOnly (old new : LineChannels) (channel : Channel) (message : Message) : Type 0 where
  pub appended : messages_at new channel ≡ messages_at old channel ++ message ∷ []
  pub others : (other : Channel) → other ≢ channel → messages_at new other ≡ messages_at old other

-- the channel lost its oldest message, where it had one, and the other channels have what they had
pub record TakesOnly (old new : LineChannels) (channel : Channel) : Type 0 where
  pub rest : messages_at new channel ≡ drop 1 (messages_at old channel)
  pub others : (other : Channel) → other ≢ channel → messages_at new other ≡ messages_at old other

-- no message waits in any channel of the line
abbrev pub IsEmptyLine : LineChannels → Type 0
IsEmptyLine line = (channel : Channel) → messages_at line channel ≡ []

-- the line has at most 64 cores, and none but these sent an acknowledgement that waits
pub record IsWithinCores (cores : List CoreChannels) : Type 0 where
  pub at_most_64 : length cores ≤ 64
  pub senders_are_cores : (to from : ℕ) →
      has (slice_index_or cores to no_messages).acks from ≡ true → from < length cores

-- each core of the set is a core of the line, and its forwarded channel takes another message
abbrev pub TakesInvalidations : LineChannels → ℕ → Type 0
TakesInvalidations line cores =
    (core : CoreId) → has cores core.0 ≡ true → HasChannel line (channels.Fwd core) × HasRoom line (channels.Fwd core)

-- the core's channels with one more forwarded message: an Inv that names the requester
abbrev pub with_invalidation : CoreId → CoreChannels → CoreChannels
with_invalidation requester core =
    record core { forwarded = core.forwarded ++ forwarded_messages.Inv requester ∷ [] }

-- the line once an Inv that names the requester went to each core of the set, after what waits there
abbrev pub after_invalidating : LineChannels → ℕ → CoreId → LineChannels
after_invalidating line cores requester =
    record line {
      cores =
          map
          (λ core. if has cores core then with_invalidation requester (core_at line core) else core_at line core)
          (range_with_len 0 (length line.cores));
    }

-- a line of this many cores in which no message waits
abbrev pub empty_line : ℕ → LineChannels
empty_line cores = record { cores = replicate cores no_messages; home = None }
