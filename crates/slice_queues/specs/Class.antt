-- The channels of one kind, or all of them.
use Rattle.std.specs.Prelude.{Bool, true, false}
use Rattle.slice_queues.specs.declared.channel.Channel.{Channel}
use Rattle.slice_queues.specs.declared.channel.Channel.TheVariants as channels
use Rattle.slice_queues.specs.declared.channel.Class.{Class}
use Rattle.slice_queues.specs.declared.channel.Class.TheVariants as classes

-- the channel is of the class
abbrev pub is_of_class : Class → Channel → Bool
is_of_class classes.Any channel = true
is_of_class classes.Req (channels.Req core) = true
is_of_class classes.Fwd (channels.Fwd core) = true
is_of_class classes.Data (channels.Data core) = true
is_of_class classes.Ack (channels.Ack to from) = true
is_of_class classes.Home channels.Home = true
is_of_class class channel = false
