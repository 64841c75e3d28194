-- What the command `waiting` prints: a line for each channel in which a message waits, on the first one there.
use Rattle.std.specs.Prelude.{ℕ, List, [], ◌∷◌, ◌++◌, codes, map, Option, Some}
use Rattle.std.specs.List.{flat_map}
use Rattle.address_map.specs.Locator.{local_at}
use Rattle.address_map.specs.declared.address.Local.{Local}
use Rattle.cache_table.specs.Name.{name_of as name_of_copy}
use Rattle.directory_table.specs.Name.{name_of as name_of_entry}
use Rattle.litmus_text.specs.Command.{parts_of}
use Rattle.litmus_text.specs.declared.command.Command.TheVariants as commands
use Rattle.litmus_text.specs.Line.{text_of_parts}
use Rattle.slice_core.specs.Facts.{front_at}
use Rattle.slice_answer.specs.Text.{text_of_cell}
use Rattle.slice_core_spec.specs.Calls.{PartsView}
use Rattle.slice_core_spec.specs.Plan.{planned_at}
use Rattle.slice_core_spec.specs.View.{View, entry_at, cache_at}
use Rattle.slice_core_cache.specs.CoreCache.{state_of}
use Rattle.slice_queues.specs.Waiting.{lines_waiting}
use Rattle.slice_queues.specs.Pick.{channel_of, line_of}
use Rattle.slice_queues.specs.declared.channel.Channel.{Channel}
use Rattle.slice_queues.specs.declared.channel.Channel.TheVariants as channels
use Rattle.slice_queues.specs.declared.channel.Pick.{Pick}
use Rattle.slice_queues.specs.declared.message.Message.{Message}
use Rattle.slice_text.specs.Message.{text_of_message}
use Rattle.slice_answer.specs.declared.answer.Delivery.TheVariants as deliveries
use Rattle.slice_answer.specs.declared.answer.Delivery.{Delivery}
use Rattle.slice_core_spec.specs.declared.transition.Transition.{Transition}

-- the state of the directory's entry, or of the core's copy, that receives a channel's messages
abbrev pub receiver_state : View → Local → Channel → List ℕ
receiver_state v local (channels.Req core) = name_of_entry (entry_at v local).state
receiver_state v local (channels.Fwd core) = name_of_copy (state_of (cache_at v core) local)
receiver_state v local (channels.Data core) = name_of_copy (state_of (cache_at v core) local)
receiver_state v local (channels.Ack to from) = name_of_copy (state_of (cache_at v to) local)
receiver_state v local channels.Home = name_of_entry (entry_at v local).state

-- what a delivery would do, if the receiver is in this state
abbrev pub text_of_plan : Delivery Transition → List ℕ → List ℕ
text_of_plan deliveries.Nothing state = codes "nothing"
text_of_plan deliveries.Blocked state = codes "blocked: " ++ state
text_of_plan (deliveries.Broken cell) state = codes "broken " ++ text_of_cell cell
text_of_plan plan state = codes "moves"

-- a message at the front of its channel: the command that delivers it, its name, and what that would do
abbrev pub text_of_flight : Pick → Message → Delivery Transition → List ℕ → List ℕ
text_of_flight pick message plan state =
    text_of_parts (parts_of (commands.Deliver pick)) ++ codes "   " ++ text_of_message message ++ codes "   "
    ++ text_of_plan plan state ++ codes "\n"

-- the line of the message at the front of a channel; none if nothing waits there
abbrev pub text_in_front : View → Pick → Option Local → Option Message → List ℕ
text_in_front v pick (Some local) (Some message) =
    text_of_flight pick message (planned_at v pick) (receiver_state v local (channel_of pick))
text_in_front v pick local message = []

abbrev pub text_at : View → Pick → List ℕ
text_at v pick =
    let local : Option Local = local_at v.lines (line_of pick).0 in
    text_in_front v pick local (front_at v local (channel_of pick))

-- the channels of a slice in which a message waits: line by line, and kind by kind within a line
abbrev pub picks_of : View → List Pick
picks_of v = lines_waiting v.lines.slice v.lines.slices 0 v.channels

-- the messages at the fronts of these channels of a slice
abbrev pub flights_of : View → List Pick → List (View × Pick)
flights_of v picks = map (λ pick. (v, pick)) picks

-- those of all slices, each with its slice: one slice after another
abbrev pub in_flight : List PartsView → List (View × Pick)
in_flight slices = flat_map (λ state. flights_of state.view (picks_of state.view)) slices

-- a line for each of them
abbrev pub lines_of : List (View × Pick) → List ℕ
lines_of flights = flat_map (λ flight. text_at flight.0 flight.1) flights

-- .. or `none`, if there is none
abbrev pub text_of_flights : List (View × Pick) → List ℕ
text_of_flights [] = codes "none\n"
text_of_flights (flight ∷ more) = lines_of (flight ∷ more)

abbrev pub text_of_waiting : List PartsView → List ℕ
text_of_waiting slices = text_of_flights (in_flight slices)
