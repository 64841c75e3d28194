-- The participants of a chart, and the texts of its arrows.
use Rattle.std.specs.Prelude.{ℕ, List, ◌++◌, codes, decimal, Option, Some, None}
use Rattle.address_map.specs.declared.address.CoreId.{CoreId}
use Rattle.litmus_chart.specs.declared.arrow.Arrow.{Arrow}
use Rattle.litmus_chart.specs.declared.arrow.Fate.{Fate}
use Rattle.litmus_chart.specs.declared.arrow.Fate.TheVariants as fates
use Rattle.litmus_chart.specs.declared.arrow.Participant.{Participant}
use Rattle.litmus_chart.specs.declared.arrow.Participant.TheVariants.{Directory, Core}
use Rattle.slice_answer.specs.Text.{text_of_cell}
use Rattle.slice_queues.specs.declared.channel.Pick.{Pick}
use Rattle.slice_queues.specs.declared.channel.Pick.TheVariants as picks
use Rattle.slice_text.specs.Message.{text_of_message}

-- the name under which a participant is declared
abbrev pub text_of_participant : Participant → List ℕ
text_of_participant (Directory slice) = codes "dir" ++ decimal slice
text_of_participant (Core core) = codes "core" ++ decimal core.0

-- an arrow that was delivered has a head, and any other a cross
abbrev pub head_of : Fate → List ℕ
head_of fates.Delivered = codes "->>"
head_of fates.Blocked = codes "-x"
head_of (fates.Broken cell) = codes "-x"

-- the text after a message that isn't delivered
abbrev pub remark_of : Fate → List ℕ
remark_of fates.Delivered = codes ""
remark_of fates.Blocked = codes " (blocked)"
remark_of (fates.Broken cell) = codes " (broken " ++ text_of_cell cell ++ codes ")"

-- the sender, the receiver, the message and the line
abbrev pub text_of_arrow : Arrow → List ℕ
text_of_arrow arrow =
    text_of_participant arrow.from ++ head_of arrow.fate ++ text_of_participant arrow.to ++ codes ": "
    ++ text_of_message arrow.message ++ codes ", line " ++ decimal arrow.line.0 ++ remark_of arrow.fate

-- the receiver of a channel
abbrev pub receiver_of : ℕ → Pick → Participant
receiver_of slice (picks.Req line core) = Directory slice
receiver_of slice (picks.Fwd line core) = Core core
receiver_of slice (picks.Data line core) = Core core
receiver_of slice (picks.Ack line to from) = Core to
receiver_of slice (picks.Home line) = Directory slice

-- the core that sent data, if one is known, and else the directory
abbrev pub by_core : ℕ → Option CoreId → Participant
by_core slice None = Directory slice
by_core slice (Some core) = Core core

-- the sender of the message of a channel
abbrev pub sender_of : ℕ → Pick → Option CoreId → Participant
sender_of slice (picks.Req line core) known = Core core
sender_of slice (picks.Fwd line core) known = Directory slice
sender_of slice (picks.Data line core) known = by_core slice known
sender_of slice (picks.Ack line to from) known = Core from
sender_of slice (picks.Home line) known = by_core slice known
