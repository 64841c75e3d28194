-- A command as data, and what is planned for the message that it delivers.
use Rattle.std.specs.Prelude.{ℕ, List, ◌++◌, codes, decimal}
use Rattle.address_map.specs.Place.{line_of as line_of_word}
use Rattle.address_map.specs.declared.address.CoreId.{CoreId}
use Rattle.cache_table.specs.Name.{name_of as name_of_copy}
use Rattle.directory_table.specs.Name.{name_of as name_of_dir}
use Rattle.directory_table.specs.declared.row.DirSends.{DirSends}
use Rattle.directory_table.specs.declared.row.DirSends.TheVariants as dir_sends
use Rattle.litmus_text.specs.declared.command.Command.{Command}
use Rattle.litmus_text.specs.declared.command.Command.TheVariants as commands
use Rattle.litmus_text.specs.Look.{name_of_look, subject_of}
use Rattle.litmus_text.specs.declared.look.Look.{Look}
use Rattle.litmus_text.specs.declared.look.Subject.{Subject}
use Rattle.litmus_text.specs.declared.look.Subject.TheVariants as subjects
use Rattle.slice_json.specs.Access.{text_of_op}
use Rattle.slice_json.specs.Json.{list_of_cores}
use Rattle.slice_json.specs.Message.{text_of_ends, text_of_fate}
use Rattle.slice_answer.specs.declared.answer.Delivery.TheVariants as deliveries
use Rattle.slice_answer.specs.declared.answer.Delivery.{Delivery}
use Rattle.slice_core_spec.specs.Calls.{core_of}
use Rattle.slice_core_spec.specs.declared.transition.Transition.TheVariants as transitions
use Rattle.slice_core_spec.specs.declared.transition.Transition.{Transition}
use Rattle.slice_queues.specs.Pick.{channel_of, line_of}
use Rattle.slice_queues.specs.declared.channel.Pick.{Pick}

-- the line or the slice that something is shown of, after its name
abbrev pub text_of_subject : Subject → List ℕ
text_of_subject (subjects.Word word) = codes "\",\"line\":" ++ decimal (line_of_word word).0 ++ codes "}"
text_of_subject (subjects.Line line) = codes "\",\"line\":" ++ decimal line.0 ++ codes "}"
text_of_subject (subjects.Slice slice) = codes "\",\"slice\":" ++ decimal slice.0 ++ codes "}"
text_of_subject subjects.Machine = codes "\"}"

abbrev pub text_of_look : Look → List ℕ
text_of_look look = codes "{\"name\":\"" ++ name_of_look look ++ text_of_subject (subject_of look)

-- a command, by its name and what it names
abbrev pub text_of_call : Command → List ℕ
text_of_call (commands.Issue core request) =
    codes "{\"name\":\"issue\",\"core\":" ++ decimal core.0 ++ codes ",\"line\":"
    ++ decimal (line_of_word request.word).0 ++ codes "," ++ text_of_op request.op ++ codes "}"
text_of_call (commands.Evict core line) =
    codes "{\"name\":\"evict\",\"core\":" ++ decimal core.0 ++ codes ",\"line\":" ++ decimal line.0 ++ codes "}"
text_of_call (commands.Deliver pick) =
    codes "{\"name\":\"deliver\",\"line\":" ++ decimal (line_of pick).0 ++ codes "," ++ text_of_ends (channel_of pick)
    ++ codes "}"
text_of_call (commands.Hand core slice) =
    codes "{\"name\":\"hand\",\"core\":" ++ (decimal core.0 ++ (codes ",\"slice\":" ++ (decimal slice.0 ++ codes "}")))
text_of_call (commands.Look look) = text_of_look look
text_of_call (commands.Pump calls) = codes "{\"name\":\"pump\"}"

-- What the directory sends on forwarded channels for a core's request. Only there can a message follow another,
-- where what is in front of the channels doesn't show it.
abbrev pub text_of_forwards : CoreId → DirSends → List ℕ
text_of_forwards core (dir_sends.FwdGetS owner) =
    codes "{\"kind\":\"Fwd-GetS\",\"for\":" ++ decimal core.0 ++ codes ",\"to\":[" ++ decimal owner.0 ++ codes "]}"
text_of_forwards core (dir_sends.FwdGetM owner) =
    codes "{\"kind\":\"Fwd-GetM\",\"for\":" ++ decimal core.0 ++ codes ",\"to\":[" ++ decimal owner.0 ++ codes "]}"
text_of_forwards core (dir_sends.DataAndInv acks invalidated) =
    codes "{\"kind\":\"Inv\",\"for\":" ++ decimal core.0 ++ codes ",\"to\":" ++ list_of_cores invalidated ++ codes "}"
text_of_forwards core dir_sends.PutAck = codes "{\"kind\":\"Put-Ack\",\"to\":[" ++ decimal core.0 ++ codes "]}"
text_of_forwards core sent = codes "null"

abbrev pub text_of_state : List ℕ → List ℕ
text_of_state next = codes "{\"fate\":\"moves\",\"next\":\"" ++ next ++ codes "\""

-- What was planned for the message in front of a channel: what a delivery does with it, the state that the row names,
-- and what the directory forwards.
abbrev pub text_of_plan : Pick → Delivery Transition → List ℕ
text_of_plan pick (deliveries.Moved (transitions.Directory step)) =
    text_of_state (name_of_dir step.state) ++ codes ",\"forwards\":"
    ++ text_of_forwards (core_of (channel_of pick)) step.sends ++ codes "}"
text_of_plan pick (deliveries.Moved (transitions.Home step)) =
    text_of_state (name_of_dir step.state) ++ codes "}"
text_of_plan pick (deliveries.Moved (transitions.Forwarded step)) =
    text_of_state (name_of_copy step.next) ++ codes "}"
text_of_plan pick (deliveries.Moved (transitions.Fill step)) =
    text_of_state (name_of_copy step.next) ++ codes "}"
text_of_plan pick (deliveries.Moved (transitions.Acknowledge step)) =
    text_of_state (name_of_copy step.next) ++ codes "}"
text_of_plan pick plan = codes "{\"fate\":\"" ++ text_of_fate plan ++ codes "\"}"

-- the delivery that a slice would choose next, or null where it could make none
abbrev pub text_of_next : Delivery Pick → List ℕ
text_of_next (deliveries.Moved pick) =
    codes "{\"line\":" ++ decimal (line_of pick).0 ++ codes "," ++ text_of_ends (channel_of pick) ++ codes "}"
text_of_next answer = codes "null"
