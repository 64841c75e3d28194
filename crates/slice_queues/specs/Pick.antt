-- A pick is a line of the memory and a channel of that line.
use Rattle.address_map.specs.declared.address.LineAddr.{LineAddr}
use Rattle.slice_queues.specs.declared.channel.Pick.{Pick}
use Rattle.slice_queues.specs.declared.channel.Pick.TheVariants as picks
use Rattle.slice_queues.specs.declared.channel.Channel.{Channel}
use Rattle.slice_queues.specs.declared.channel.Channel.TheVariants as channels

-- the line that is picked from
abbrev pub line_of : Pick → LineAddr
line_of (picks.Req line core) = line
line_of (picks.Fwd line core) = line
line_of (picks.Data line core) = line
line_of (picks.Ack line to from) = line
line_of (picks.Home line) = line

-- the channel of that line
abbrev pub channel_of : Pick → Channel
channel_of (picks.Req line core) = channels.Req core
channel_of (picks.Fwd line core) = channels.Fwd core
channel_of (picks.Data line core) = channels.Data core
channel_of (picks.Ack line to from) = channels.Ack to from
channel_of (picks.Home line) = channels.Home

-- the pick with this line and this channel
abbrev pub pick_at : LineAddr → Channel → Pick
pick_at line (channels.Req core) = picks.Req line core
pick_at line (channels.Fwd core) = picks.Fwd line core
pick_at line (channels.Data core) = picks.Data line core
pick_at line (channels.Ack to from) = picks.Ack line to from
pick_at line channels.Home = picks.Home line
