-- What the rows of the two tables put into the channels of a line, and whether there is room for it.
use Rattle.std.specs.Prelude.{ℕ, nat_lt, ◌&&◌, Bool, true, length}
use Rattle.std.specs.List.{list_all}
use Rattle.address_map.specs.CoreSet.{members}
use Rattle.address_map.specs.declared.address.CoreId.{CoreId}
use Rattle.address_map.specs.declared.block.Block.{Block}
use Rattle.cache_table.specs.declared.row.CacheSends.{CacheSends}
use Rattle.cache_table.specs.declared.row.CacheSends.TheVariants as cache_sends
use Rattle.directory_table.specs.declared.row.DirSends.{DirSends}
use Rattle.directory_table.specs.declared.row.DirSends.TheVariants as dir_sends
use Rattle.slice_queues.specs.Line.{LineChannels, after_send, messages_at, room_of, after_invalidating}
use Rattle.slice_queues.specs.declared.channel.Channel.{Channel}
use Rattle.slice_queues.specs.declared.channel.Channel.TheVariants as channels
use Rattle.slice_queues.specs.declared.message.DataMessage.TheVariants as data_messages
use Rattle.slice_queues.specs.declared.message.ForwardedMessage.TheVariants as forwarded_messages
use Rattle.slice_queues.specs.declared.message.Message.TheVariants as messages

-- the line has the channel: the cores that it names are there
abbrev pub has_channel : LineChannels → Channel → Bool
has_channel line (channels.Req core) = nat_lt core.0 (length line.cores)
has_channel line (channels.Fwd core) = nat_lt core.0 (length line.cores)
has_channel line (channels.Data core) = nat_lt core.0 (length line.cores)
has_channel line (channels.Ack to from) = nat_lt to.0 (length line.cores) && nat_lt from.0 (length line.cores)
has_channel line channels.Home = true

-- the line has the channel, and it takes another message
unfoldable pub takes : LineChannels → Channel → Bool
takes line channel = has_channel line channel && nat_lt (length (messages_at line channel)) (room_of channel)

-- the forwarded channel of each core of the set takes another message
unfoldable pub takes_invalidations : LineChannels → ℕ → Bool
takes_invalidations line cores = list_all (λ core. takes line (channels.Fwd (record { 0 = core }))) (members cores)

-- what a row of the directory's table sends for a core's request, data being this block
abbrev pub directory_sent : LineChannels → CoreId → Block → DirSends → LineChannels
directory_sent line core block dir_sends.Nothing = line
directory_sent line core block (dir_sends.Data acks) =
    after_send line (channels.Data core) (messages.Data (data_messages.Data block acks))
directory_sent line core block dir_sends.DataE =
    after_send line (channels.Data core) (messages.Data (data_messages.DataE block))
directory_sent line core block (dir_sends.DataAndInv acks invalidated) =
    after_invalidating (after_send line (channels.Data core) (messages.Data (data_messages.Data block acks)))
    invalidated core
directory_sent line core block (dir_sends.FwdGetS owner) =
    after_send line (channels.Fwd owner) (messages.Forwarded (forwarded_messages.FwdGetS core))
directory_sent line core block (dir_sends.FwdGetM owner) =
    after_send line (channels.Fwd owner) (messages.Forwarded (forwarded_messages.FwdGetM core))
directory_sent line core block dir_sends.PutAck =
    after_send line (channels.Fwd core) (messages.Forwarded forwarded_messages.PutAck)

-- each channel that the row sends to has room
abbrev pub directory_room : LineChannels → CoreId → DirSends → Bool
directory_room line core dir_sends.Nothing = true
directory_room line core (dir_sends.Data acks) = takes line (channels.Data core)
directory_room line core dir_sends.DataE = takes line (channels.Data core)
directory_room line core (dir_sends.DataAndInv acks invalidated) =
    takes line (channels.Data core) && takes_invalidations line invalidated
directory_room line core (dir_sends.FwdGetS owner) = takes line (channels.Fwd owner)
directory_room line core (dir_sends.FwdGetM owner) = takes line (channels.Fwd owner)
directory_room line core dir_sends.PutAck = takes line (channels.Fwd core)

-- what a row of the cache's table sends from a core for a requester, data being this block
abbrev pub cache_sent : LineChannels → CoreId → CoreId → Block → CacheSends → LineChannels
cache_sent line core requester block cache_sends.DataToRequester =
    after_send line (channels.Data requester) (messages.Data (data_messages.Data block 0))
cache_sent line core requester block cache_sends.DataToRequesterAndHome =
    after_send (after_send line (channels.Data requester) (messages.Data (data_messages.Data block 0))) channels.Home
    (messages.Home block)
cache_sent line core requester block cache_sends.InvAckToRequester =
    after_send line (channels.Ack requester core) messages.InvAck
cache_sent line core requester block _ = line

-- each channel that the row sends to has room
abbrev pub cache_room : LineChannels → CoreId → CoreId → CacheSends → Bool
cache_room line core requester cache_sends.DataToRequester = takes line (channels.Data requester)
cache_room line core requester cache_sends.DataToRequesterAndHome =
    takes line (channels.Data requester) && takes line channels.Home
cache_room line core requester cache_sends.InvAckToRequester = takes line (channels.Ack requester core)
cache_room line core requester _ = true
