-- What is known of a plan that a delivery carries out.
use Rattle.std.specs.Prelude.{◌≡◌, true, false, None, IsSome}
use Rattle.address_map.specs.declared.address.Local.{Local}
use Rattle.slice_core_spec.specs.Sends.{cache_room, directory_room}
use Rattle.slice_core_spec.specs.View.{View, channels_at, cache_at}
use Rattle.slice_core_spec.specs.Within.{HasCopy, StandsAt, is_shared}
use Rattle.slice_queues.specs.Line.{core_at}
use Rattle.slice_queues.specs.declared.channel.Channel.{Channel}
use Rattle.slice_queues.specs.declared.channel.Channel.TheVariants as channels
use Rattle.slice_answer.specs.declared.answer.Delivery.TheVariants as deliveries
use Rattle.slice_answer.specs.declared.answer.Delivery.{Delivery}
use Rattle.slice_core_spec.specs.declared.transition.Transition.TheVariants as transitions
use Rattle.slice_core_spec.specs.declared.transition.Transition.{Transition}

-- A plan is for its own kind of channel, in which a message waits; what its row sends finds room; and a copy that it
-- changes is there.
abbrev pub IsPlanned : View → Local → Channel → Delivery Transition → Type 0
IsPlanned v local channel deliveries.Nothing = Unit {0}
IsPlanned v local channel deliveries.Blocked = Unit {0}
IsPlanned v local channel (deliveries.Broken cell) = Unit {0}
IsPlanned v local (channels.Req core) (deliveries.Moved (transitions.Directory step)) =
    directory_room (channels_at v local) core step.sends ≡ true
IsPlanned v local channels.Home (deliveries.Moved (transitions.Home step)) = IsSome (channels_at v local).home
IsPlanned v local (channels.Fwd core) (deliveries.Moved (transitions.Forwarded step)) =
    HasCopy (cache_at v core) local × (cache_room (channels_at v local) core step.requester step.sends ≡ true)
IsPlanned v local (channels.Data core) (deliveries.Moved (transitions.Fill step)) =
    StandsAt (cache_at v core) local step.way
    × IsSome (core_at (channels_at v local) core.0).data × ((core_at (channels_at v local) core.0).request ≡ None)
IsPlanned v local (channels.Ack to from) (deliveries.Moved (transitions.Acknowledge step)) =
    StandsAt (cache_at v to) local step.way × (is_shared step.next ≡ false)
IsPlanned v local channel plan = ⊥
