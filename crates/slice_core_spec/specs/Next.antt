-- The next delivery of a class: one that can be made before one that is broken, that before one that is blocked. It
-- names a line of the slice and one of its channels.
use Rattle.std.specs.Prelude.{◌≡◌, ◌<◌, ◌⊎◌, IsTrue}
use Rattle.address_map.specs.declared.address.Local.{Local}
use Rattle.slice_answer.specs.Delivery.{delivered_with, delivery_with}
pub use Rattle.slice_answer.specs.Delivery.{better_of}
use Rattle.slice_answer.specs.declared.answer.Delivered.{Delivered}
use Rattle.slice_answer.specs.declared.answer.Delivery.TheVariants as deliveries
use Rattle.slice_answer.specs.declared.answer.Delivery.{Delivery}
use Rattle.slice_core_spec.specs.Plan.{plan_of}
use Rattle.slice_core_spec.specs.View.{View}
use Rattle.slice_core_spec.specs.declared.transition.Transition.{Transition}
use Rattle.slice_queues.specs.Class.{is_of_class}
use Rattle.slice_queues.specs.declared.channel.Channel.{Channel}
use Rattle.slice_queues.specs.declared.channel.Class.{Class}

-- what is to be done at one channel, by what is planned there
abbrev pub next_by : Local → Channel → Delivery Transition → Delivery (Local × Channel)
next_by local channel plan = delivery_with (local, channel) plan

-- what was to be done there, by what its delivery returned
abbrev pub next_told : Local → Channel → Delivered → Delivery (Local × Channel)
next_told local channel answer = delivered_with (local, channel) answer

-- nothing at the channel is better than this
abbrev pub IsNoBetter : Delivery (Local × Channel) → Delivery (Local × Channel) → Type 0
IsNoBetter one other = better_of one other ≡ one

-- Of the channels of a line that are of the class, none has anything better than this, and this is what one of them
-- has, or nothing.
abbrev pub IsNextAt : View → Local → Class → Delivery (Local × Channel) → Type 0
IsNextAt v local class next =
    ((channel : Channel) → IsTrue (is_of_class class channel)
    → IsNoBetter next (next_by local channel (plan_of v local channel)))
    × ((next ≡ deliveries.Nothing)
    ⊎ ((channel : Channel) × IsTrue (is_of_class class channel)
    × (next ≡ next_by local channel (plan_of v local channel))))

-- The same of all lines of the slice.
abbrev pub IsNextIn : View → Class → Delivery (Local × Channel) → Type 0
IsNextIn v class next =
    ((local : Local) (channel : Channel) → local.0 < v.lines.lines → IsTrue (is_of_class class channel)
    → IsNoBetter next (next_by local channel (plan_of v local channel)))
    × ((next ≡ deliveries.Nothing)
    ⊎ ((local : Local) × (channel : Channel) × (local.0 < v.lines.lines) × IsTrue (is_of_class class channel)
    × (next ≡ next_by local channel (plan_of v local channel))))
