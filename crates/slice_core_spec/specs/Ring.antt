-- Which message a next delivery takes, and how the ring turns. The ring is a list of lines by their places in the
-- slice, the front first: they are looked at in this order.
use Rattle.std.specs.Prelude.{ℕ, ◌+◌, ◌++◌, Bool, true, false, if◌then◌else◌, List, [], ◌∷◌, drop, filter, take}
use Rattle.address_map.specs.Locator.{Lines, line_at}
use Rattle.address_map.specs.declared.address.Local.{Local}
use Rattle.slice_answer.specs.Delivery.{better_of, delivery_map}
use Rattle.slice_core_spec.specs.Next.{next_by}
use Rattle.slice_core_spec.specs.Plan.{plan_of}
use Rattle.slice_core_spec.specs.View.{View, channels_at}
use Rattle.slice_queues.specs.Line.{has_mail}
use Rattle.slice_queues.specs.Waiting.{line_waiting}
use Rattle.slice_queues.specs.Class.{is_of_class}
use Rattle.slice_queues.specs.Pick.{pick_at}
use Rattle.slice_queues.specs.declared.channel.Channel.{Channel}
use Rattle.slice_queues.specs.declared.channel.Class.{Class}
use Rattle.slice_answer.specs.declared.answer.Delivery.TheVariants as deliveries
use Rattle.slice_answer.specs.declared.answer.Delivery.{Delivery}
use Rattle.slice_queues.specs.declared.channel.Pick.{Pick}

-- ---- which message is next

-- of these channels of a line the first whose message can be moved; where there is none, the first that is broken, or
-- else the first that is blocked
abbrev pub first_of : View → Local → List Channel → Delivery (Local × Channel)
first_of v local [] = deliveries.Nothing
first_of v local (channel ∷ rest) = better_of (next_by local channel (plan_of v local channel)) (first_of v local rest)

-- the line's channels of the class in which a message waits, in the order in which they are looked at
abbrev pub waiting_in : View → Class → Local → List Channel
waiting_in v class local = filter (is_of_class class) (line_waiting (channels_at v local))

-- what is next of a line
abbrev pub next_at : View → Class → Local → Delivery (Local × Channel)
next_at v class local = first_of v local (waiting_in v class local)

-- what is next of these lines: of the first with a message that can be moved, where there is one
abbrev pub next_in : View → Class → List ℕ → Delivery (Local × Channel)
next_in v class [] = deliveries.Nothing
next_in v class (local ∷ rest) = better_of (next_at v class (record { 0 = local })) (next_in v class rest)

-- the same by the line's number in the memory
abbrev pub pick_of : Lines → Delivery (Local × Channel) → Delivery Pick
pick_of lines next = delivery_map (λ at. pick_at (line_at lines at.0) at.1) next

-- ---- how the ring turns

abbrev pub is_move : Delivery (Local × Channel) → Bool
is_move (deliveries.Moved at) = true
is_move _ = false

-- how many of these lines are looked at: those up to the first with a message that can be moved, or all
abbrev pub looked_at : View → Class → List ℕ → ℕ
looked_at v class [] = 0
looked_at v class (local ∷ rest) =
    if is_move (next_at v class (record { 0 = local })) then 1 else 1 + looked_at v class rest

-- a message waits for the line at this place
abbrev pub has_mail_at : View → ℕ → Bool
has_mail_at v local = has_mail (channels_at v (record { 0 = local }))

-- `looked` lines were looked at: those that still have pending messages go after the others, the rest leave the ring
abbrev pub ring_after_turn : View → ℕ → List ℕ → List ℕ
ring_after_turn v looked ring = drop looked ring ++ filter (has_mail_at v) (take looked ring)
