-- The next delivery of several slices.
use Rattle.std.specs.Prelude.{List, [], ◌∷◌, Option, None, Some, slice_get}
use Rattle.std.specs.Option.{option_map_or}
use Rattle.address_map.specs.declared.address.SliceId.{SliceId}
use Rattle.slice_core_spec.specs.Calls.{PartsView, next_pick}
use Rattle.slice_queues.specs.declared.channel.Class.TheVariants as classes
use Rattle.slice_answer.specs.declared.answer.Delivery.TheVariants as deliveries
use Rattle.slice_answer.specs.declared.answer.Delivery.{Delivery}
use Rattle.slice_queues.specs.declared.channel.Pick.{Pick}

-- What slices come to, where the first comes to this and the others to that: the first delivery that can be made,
-- or else that of the first slice in which a message waits.
abbrev pub or_next : Delivery Pick → Delivery Pick → Delivery Pick
or_next deliveries.Nothing other = other
or_next (deliveries.Moved pick) other = deliveries.Moved pick
or_next deliveries.Blocked (deliveries.Moved pick) = deliveries.Moved pick
or_next deliveries.Blocked other = deliveries.Blocked
or_next (deliveries.Broken cell) (deliveries.Moved pick) = deliveries.Moved pick
or_next (deliveries.Broken cell) other = deliveries.Broken cell

abbrev pub next_of_all : List PartsView → Delivery Pick
next_of_all [] = deliveries.Nothing
next_of_all (slice ∷ more) = or_next (next_pick slice classes.Any) (next_of_all more)

-- the next delivery of the slices, or of this one alone
abbrev pub next_of : List PartsView → Option SliceId → Delivery Pick
next_of slices None = next_of_all slices
next_of slices (Some slice) =
    option_map_or (λ state. next_pick state classes.Any) (slice_get slices slice.0) deliveries.Nothing
