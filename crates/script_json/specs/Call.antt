-- A command as data: its name, and what it names.
use Rattle.std.specs.Prelude.{ℕ, List, ◌++◌, codes, decimal}
use Rattle.address_map.specs.declared.request.Op.{Op}
use Rattle.address_map.specs.declared.request.Op.TheVariants as ops
use Rattle.litmus_text.specs.JsonNumber.{number_of}
use Rattle.litmus_text.specs.declared.command.Command.{Command}
use Rattle.litmus_text.specs.declared.command.Command.TheVariants as commands
use Rattle.litmus_text.specs.Look.{name_of_look, subject_of}
use Rattle.litmus_text.specs.declared.look.Look.{Look}
use Rattle.litmus_text.specs.declared.look.Subject.{Subject}
use Rattle.litmus_text.specs.declared.look.Subject.TheVariants as subjects
use Rattle.slice_queues.specs.Pick.{channel_of, line_of}
use Rattle.slice_queues.specs.declared.channel.Channel.{Channel}
use Rattle.slice_queues.specs.declared.channel.Channel.TheVariants as channels

-- what an access asks for, with its operands
abbrev pub text_of_op : Op → List ℕ
text_of_op ops.Load = codes "\"op\":\"load\""
text_of_op (ops.Store value) = codes "\"op\":\"store\",\"value\":" ++ number_of value
text_of_op (ops.Add value) = codes "\"op\":\"add\",\"value\":" ++ number_of value
text_of_op (ops.Cas expect new) =
    codes "\"op\":\"cas\",\"expect\":" ++ number_of expect ++ codes ",\"value\":" ++ number_of new

-- a channel, by its class and the cores at it
abbrev pub text_of_ends : Channel → List ℕ
text_of_ends (channels.Req core) = codes "\"class\":\"req\",\"core\":" ++ decimal core.0
text_of_ends (channels.Fwd core) = codes "\"class\":\"fwd\",\"core\":" ++ decimal core.0
text_of_ends (channels.Data core) = codes "\"class\":\"data\",\"core\":" ++ decimal core.0
text_of_ends (channels.Ack to from) =
    codes "\"class\":\"ack\",\"to\":" ++ decimal to.0 ++ codes ",\"from\":" ++ decimal from.0
text_of_ends channels.Home = codes "\"class\":\"home\""

-- what something is shown of, after its name
abbrev pub text_of_subject : Subject → List ℕ
text_of_subject (subjects.Word word) = codes "\",\"word\":" ++ decimal word.0 ++ codes "}"
text_of_subject (subjects.Line line) = codes "\",\"line\":" ++ decimal line.0 ++ codes "}"
text_of_subject (subjects.Slice slice) = codes "\",\"slice\":" ++ decimal slice.0 ++ codes "}"
text_of_subject subjects.Machine = codes "\"}"

abbrev pub text_of_look : Look → List ℕ
text_of_look look = codes "{\"name\":\"" ++ name_of_look look ++ text_of_subject (subject_of look)

abbrev pub text_of_call : Command → List ℕ
text_of_call (commands.Issue core request) =
    codes "{\"name\":\"issue\",\"core\":" ++ decimal core.0 ++ codes ",\"tag\":" ++ decimal request.tag
    ++ codes ",\"word\":" ++ decimal request.word.0 ++ codes "," ++ text_of_op request.op ++ codes "}"
text_of_call (commands.Evict core line) =
    codes "{\"name\":\"evict\",\"core\":" ++ decimal core.0 ++ codes ",\"line\":" ++ decimal line.0 ++ codes "}"
text_of_call (commands.Deliver pick) =
    codes "{\"name\":\"deliver\",\"line\":" ++ decimal (line_of pick).0 ++ codes "," ++ text_of_ends (channel_of pick)
    ++ codes "}"
text_of_call (commands.Hand core slice) =
    codes "{\"name\":\"hand\",\"core\":" ++ (decimal core.0 ++ (codes ",\"slice\":" ++ (decimal slice.0 ++ codes "}")))
text_of_call (commands.Look look) = text_of_look look
text_of_call (commands.Pump calls) = codes "{\"name\":\"pump\",\"calls\":" ++ number_of calls ++ codes "}"
