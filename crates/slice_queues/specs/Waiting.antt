-- The channels in which a message waits, each once, in a fixed order.
use Rattle.std.specs.Prelude.{◌≡◌, ◌==◌, ◌&&◌, true, false, count_by, ℕ, ◌+◌, ◌*◌, ◌/◌, ◌^◌, ◌<◌, ◌++◌, nat_lt}
use Rattle.std.specs.Prelude.{if◌then◌else◌, is_some, length, List, [], ◌∷◌, map, filter, take, drop, slice_index_or}
use Rattle.std.specs.Prelude.{Bool}
use Rattle.address_map.specs.Locator.{Lines}
use Rattle.address_map.specs.declared.address.LineAddr.{LineAddr}
use Rattle.slice_queues.specs.declared.channel.Channel.{Channel}
use Rattle.slice_queues.specs.declared.channel.Channel.TheVariants as channels
use Rattle.slice_queues.specs.declared.channel.Pick.{Pick}
use Rattle.slice_queues.specs.Pick.{line_of, channel_of, pick_at}
use Rattle.slice_queues.specs.declared.channel.Class.{Class}
use Rattle.slice_queues.specs.Class.{is_of_class}
use Rattle.slice_queues.specs.declared.mail.Mail.{Mail}
use Rattle.slice_queues.specs.declared.waiting.AcksLeft.{AcksLeft}
use Rattle.slice_queues.specs.declared.waiting.ChannelsLeft.{ChannelsLeft}
use Rattle.slice_queues.specs.Line.{CoreChannels, LineChannels, no_messages, core_at, messages_at, has_request}
use Rattle.slice_queues.specs.Line.{has_forwarded, has_data, has_acks}
use Rattle.address_map.specs.CoreSet.{members}
use Rattle.std.specs.List.{AllByRecursion, flat_map, range_with_len}
use Rattle.slice_queues.specs.Slice.{SliceChannels, messages_in}

-- the channels of the core with this number
abbrev pub req_of : ℕ → Channel
req_of core = channels.Req (record { 0 = core })

abbrev pub fwd_of : ℕ → Channel
fwd_of core = channels.Fwd (record { 0 = core })

abbrev pub data_of : ℕ → Channel
data_of core = channels.Data (record { 0 = core })

-- the channels of the acknowledgements for the core that these cores sent
abbrev pub acks_to : ℕ → List ℕ → List Channel
acks_to to senders = map (λ from. channels.Ack (record { 0 = to }) (record { 0 = from })) senders

-- the channels in which an acknowledgement waits for the core
abbrev pub acks_at : List CoreChannels → ℕ → List Channel
acks_at cores to = acks_to to (members (slice_index_or cores to no_messages).acks)

-- the channel, where a message waits in it
abbrev pub only_if : Bool → Channel → List Channel
only_if waits channel = if waits then channel ∷ [] else []

-- channels kind by kind: home, the data for these cores, these of acknowledgements, what is forwarded to these cores,
-- and these cores' requests
abbrev pub by_kind : Bool → List ℕ → List Channel → List ℕ → List ℕ → List Channel
by_kind home data_for acks forwarded_to requested_by =
    only_if home channels.Home
    ++ (map data_of data_for ++ (acks ++ (map fwd_of forwarded_to ++ map req_of requested_by)))

-- the line's cores whose channels pass the test, in ascending order
abbrev pub cores_where : (CoreChannels → Bool) → LineChannels → List ℕ
cores_where test line = filter (λ core. test (core_at line core)) (range_with_len 0 (length line.cores))

-- the line's channels in which a message waits, kind by kind, and those of a kind in ascending order of their cores
abbrev pub line_waiting : LineChannels → List Channel
line_waiting line =
    by_kind
    (is_some line.home)
    (cores_where has_data line)
    (flat_map (acks_at line.cores) (cores_where has_acks line))
    (cores_where has_forwarded line)
    (cores_where has_request line)

-- the acknowledgements that are left: of these senders for the one core, and those that wait for the others
abbrev pub acks_left : ℕ → ℕ → ℕ → List CoreChannels → List Channel
acks_left to senders others cores = acks_to to (members senders) ++ flat_map (acks_at cores) (members others)

abbrev pub acks_from : AcksLeft → List CoreChannels → List Channel
acks_from left cores = acks_left left.to.0 left.senders left.receivers cores

-- the members of the set are cores of the line
abbrev pub AreCores : List CoreChannels → ℕ → Type 0
AreCores cores set = AllByRecursion (λ core. core < length cores) (members set)

-- the channels that are left of a line with these cores
abbrev pub channels_left : ChannelsLeft → List CoreChannels → List Channel
channels_left left cores =
    by_kind
    left.home
    (members left.data_messages)
    (acks_from left.acks cores)
    (members left.forwarded)
    (members left.requests)

-- the channels for which the marks say that a message waits
abbrev pub marked_waiting : Bool → Mail → List CoreChannels → List Channel
marked_waiting home mail cores =
    by_kind
    home
    (members mail.data_messages)
    (flat_map (acks_at cores) (members mail.acks))
    (members mail.forwarded)
    (members mail.requests)

-- the two are the same channel
abbrev pub is_same_channel : Channel → Channel → Bool
is_same_channel (channels.Req core) (channels.Req other) = core.0 == other.0
is_same_channel (channels.Fwd core) (channels.Fwd other) = core.0 == other.0
is_same_channel (channels.Data core) (channels.Data other) = core.0 == other.0
is_same_channel (channels.Ack to from) (channels.Ack other_to other_from) =
    (to.0 == other_to.0) && (from.0 == other_from.0)
is_same_channel channels.Home channels.Home = true
is_same_channel channel other = false

-- a message waits in the channel
abbrev pub is_waiting : LineChannels → Channel → Bool
is_waiting line channel = nat_lt 0 (length (messages_at line channel))

-- each channel in which a message waits is in the list once, and no other is
abbrev pub HasEachOnce : LineChannels → List Channel → Type 0
HasEachOnce line names =
    (channel : Channel) →
    count_by (is_same_channel channel) names ≡ (if is_waiting line channel then 1 else 0)

-- each channel of the class in which a message waits is in the list once, and no other is
abbrev pub HasEachOnceIn : Class → LineChannels → List Channel → Type 0
HasEachOnceIn class line names =
    (channel : Channel) →
    count_by (is_same_channel channel) names ≡ (if is_of_class class channel && is_waiting line channel then 1 else 0)

-- the line of the memory at a place of a slice
abbrev pub line_number : ℕ → ℕ → ℕ → LineAddr
line_number slice slices place = record { 0 = place * slices + slice }

-- the picks with a message of the lines from this place on, line by line
abbrev pub lines_waiting : ℕ → ℕ → ℕ → List LineChannels → List Pick
lines_waiting slice slices place [] = []
lines_waiting slice slices place (line ∷ rest) =
    map (pick_at (line_number slice slices place)) (line_waiting line)
    ++ lines_waiting slice slices (place + 1) rest

-- what is left of a run of lines: these channels of one line, and the lines from this place on
abbrev pub lines_left : ℕ → ℕ → LineAddr → List Channel → ℕ → List LineChannels → List Pick
lines_left slice slices line current place rest =
    map (pick_at line) current ++ lines_waiting slice slices place rest

-- the numbers of the lines from this place on are below 2 ^ 64
pub record IsAddressedFrom (place lines slice slices : ℕ) : Type 0 where
  pub one_of_them : slice < slices
  pub in_range : (place + lines) * slices < 2 ^ 64

-- the picks with a message: those of the start line first, then those of the lines after it, and finally those of the
-- lines before it
abbrev pub picks_waiting : SliceChannels → LineAddr → List Pick
picks_waiting queues start =
    lines_waiting
    queues.slice
    queues.slices
    (start.0 / queues.slices)
    (drop (start.0 / queues.slices) queues.lines)
    ++ lines_waiting queues.slice queues.slices 0 (take (start.0 / queues.slices) queues.lines)

-- these lines as those of the slice that the locator is of
abbrev pub placed_by : Lines → List LineChannels → SliceChannels
placed_by own lines = record { lines = lines; slice = own.slice; slices = own.slices }

-- the two are the same pick
abbrev pub is_same_pick : Pick → Pick → Bool
is_same_pick pick other =
    ((line_of pick).0 == (line_of other).0) && is_same_channel (channel_of pick) (channel_of other)

-- a message waits at the pick
abbrev pub is_waiting_in : SliceChannels → Pick → Bool
is_waiting_in queues pick = nat_lt 0 (length (messages_in queues pick))

-- where the channel names a sender, it is one of the 64 cores that there can be: a channel from any other stays empty
abbrev pub is_from_core : Channel → Bool
is_from_core (channels.Ack to from) = nat_lt from.0 64
is_from_core channel = true

-- each pick at which a message waits is in the list once, and no other is
abbrev pub HasEachPickOnce : SliceChannels → List Pick → Type 0
HasEachPickOnce queues picks =
    (pick : Pick) →
    count_by (is_same_pick pick) picks
    ≡ (if is_from_core (channel_of pick) && is_waiting_in queues pick then 1 else 0)
