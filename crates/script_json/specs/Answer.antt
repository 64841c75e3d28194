-- What became of a command, as members of an object: the words of its answer, and the same under names.
use Rattle.std.specs.Prelude.{ℕ, List, ◌++◌, codes, decimal, Option, Some, None}
use Rattle.litmus_text.specs.JsonNumber.{number_of}
use Rattle.litmus_script.specs.declared.answers.Issued.{Issued}
use Rattle.litmus_script.specs.declared.answers.Issued.TheVariants as issued_kinds
use Rattle.litmus_script.specs.declared.answers.Pumped.{Pumped}
use Rattle.litmus_script.specs.declared.answers.Pumped.TheVariants as pumps
use Rattle.script_json.specs.declared.answer.Answer.{Answer}
use Rattle.script_json.specs.declared.answer.Answer.TheVariants as answers
use Rattle.slice_answer.specs.declared.answer.Cell.TheVariants as cells
use Rattle.slice_answer.specs.declared.answer.Delivered.{Delivered}
use Rattle.slice_answer.specs.declared.answer.Delivered.TheVariants as delivered
use Rattle.slice_answer.specs.declared.answer.Evicted.{Evicted}
use Rattle.slice_answer.specs.declared.answer.Evicted.TheVariants as evictions
use Rattle.slice_answer.specs.declared.answer.Refused.{Refused}
use Rattle.slice_answer.specs.declared.answer.Refused.TheVariants as refusals
use Rattle.slice_answer.specs.declared.answer.Stall.{Stall}
use Rattle.slice_answer.specs.declared.answer.Stall.TheVariants as stalls
use Rattle.slice_log.specs.declared.entry.Numbered.{Numbered}
use Rattle.slice_queues.specs.declared.channel.Pick.{Pick}
use Rattle.slice_queues.specs.declared.channel.Pick.TheVariants as picks

-- ---- accesses

-- why an access isn't accepted, after its status as the first word: the number and the name of the reason
abbrev pub text_of_reason : List ℕ → ℕ → List ℕ → List ℕ
text_of_reason status number name =
    codes "," ++ (decimal number ++ (codes ",\"" ++ (name ++ (codes "\"],\"status\":\"" ++ (status
    ++ (codes "\",\"number\":" ++ (decimal number ++ (codes ",\"reason\":\"" ++ (name ++ codes "\"")))))))))

abbrev pub text_of_stall : Stall → List ℕ
text_of_stall stalls.NoRegister = text_of_reason (codes "stall") 1 (codes "NoRegister")
text_of_stall stalls.NoTarget = text_of_reason (codes "stall") 2 (codes "NoTarget")
text_of_stall stalls.NoWay = text_of_reason (codes "stall") 3 (codes "NoWay")
text_of_stall stalls.WriteBackFull = text_of_reason (codes "stall") 4 (codes "WriteBackFull")
text_of_stall stalls.WriteBackBusy = text_of_reason (codes "stall") 5 (codes "WriteBackBusy")

abbrev pub text_of_refused : Refused → List ℕ
text_of_refused refusals.OutOfRange = text_of_reason (codes "refused") 1 (codes "OutOfRange")
text_of_refused refusals.TagRange = text_of_reason (codes "refused") 2 (codes "TagRange")
text_of_refused refusals.TagBusy = text_of_reason (codes "refused") 3 (codes "TagBusy")
text_of_refused refusals.CounterStore = text_of_reason (codes "refused") 4 (codes "CounterStore")
text_of_refused refusals.Memory = text_of_reason (codes "refused") 5 (codes "Memory")
text_of_refused refusals.WrongSlice = text_of_reason (codes "refused") 6 (codes "WrongSlice")
text_of_refused (refusals.Ahead length) = text_of_reason (codes "refused") 8 (codes "Ahead")

abbrev pub members_of_issued : Issued → List ℕ
members_of_issued (issued_kinds.Done number reply) =
    codes "\"words\":[\"done\"," ++ (number_of number ++ (codes ",\"reply\"," ++ (number_of reply
    ++ (codes "],\"status\":\"done\",\"number\":" ++ (decimal number ++ (codes ",\"reply\":" ++ number_of reply))))))
members_of_issued (issued_kinds.Pending seq) =
    codes "\"words\":[\"pending\"," ++ number_of seq ++ codes "],\"status\":\"pending\",\"number\":" ++ decimal seq
members_of_issued (issued_kinds.Stall stall) = codes "\"words\":[\"stall\"" ++ text_of_stall stall
members_of_issued (issued_kinds.Refused refused) = codes "\"words\":[\"refused\"" ++ text_of_refused refused

-- ---- other commands

abbrev pub members_of_evicted : Evicted → List ℕ
members_of_evicted evictions.Evicting = codes "\"words\":[\"evicting\"],\"status\":\"evicting\""
members_of_evicted evictions.NotHeld = codes "\"words\":[\"not\",\"held\"],\"status\":\"not held\""
members_of_evicted evictions.Busy = codes "\"words\":[\"busy\"],\"status\":\"busy\""
members_of_evicted evictions.WriteBackFull = codes "\"words\":[\"buffer\",\"full\"],\"status\":\"buffer full\""

abbrev pub members_of_delivered : Delivered → List ℕ
members_of_delivered delivered.Moved = codes "\"words\":[\"moved\"],\"status\":\"moved\""
members_of_delivered delivered.Blocked = codes "\"words\":[\"blocked\"],\"status\":\"blocked\""
members_of_delivered delivered.Nothing = codes "\"words\":[\"nothing\"],\"status\":\"nothing\""
members_of_delivered (delivered.Broken cells.Entry) =
    codes "\"words\":[\"broken\",\"entry\"],\"status\":\"broken entry\""
members_of_delivered (delivered.Broken cells.Full) =
    codes "\"words\":[\"broken\",\"full\"],\"status\":\"broken full\""
members_of_delivered (delivered.Broken cells.Early) =
    codes "\"words\":[\"broken\",\"early\"],\"status\":\"broken early\""

abbrev pub members_of_handed : Option Numbered → List ℕ
members_of_handed None = codes "\"words\":[\"none\"],\"status\":\"none\""
members_of_handed (Some given) =
    codes "\"words\":[\"receipt\"," ++ (number_of given.number ++ (codes ",\"tag\"," ++ (decimal given.entry.tag
    ++ (codes ",\"reply\"," ++ (number_of given.entry.reply ++ (codes "],\"status\":\"receipt\",\"number\":"
    ++ (decimal given.number ++ (codes ",\"tag\":" ++ (decimal given.entry.tag ++ (codes ",\"reply\":"
    ++ number_of given.entry.reply))))))))))

abbrev pub members_of_word : Option ℕ → List ℕ
members_of_word None = codes "\"words\":[\"not\",\"quiet\"],\"status\":\"not quiet\""
members_of_word (Some value) = codes "\"words\":[" ++ number_of value ++ codes "],\"value\":" ++ number_of value

-- ---- a pump: a delivery that it made has the words of the command that makes it; then what is left

abbrev pub members_of_made : Pick → List ℕ
members_of_made (picks.Req line core) =
    codes "\"words\":[\"deliver\",\"req\"," ++ decimal line.0 ++ codes "," ++ decimal core.0 ++ codes "]"
members_of_made (picks.Fwd line core) =
    codes "\"words\":[\"deliver\",\"fwd\"," ++ decimal line.0 ++ codes "," ++ decimal core.0 ++ codes "]"
members_of_made (picks.Data line core) =
    codes "\"words\":[\"deliver\",\"data\"," ++ decimal line.0 ++ codes "," ++ decimal core.0 ++ codes "]"
members_of_made (picks.Ack line to from) =
    codes "\"words\":[\"deliver\",\"ack\"," ++ decimal line.0 ++ codes "," ++ decimal to.0 ++ codes ","
    ++ decimal from.0 ++ codes "]"
members_of_made (picks.Home line) = codes "\"words\":[\"deliver\",\"home\"," ++ decimal line.0 ++ codes "]"

abbrev pub members_of_pumped : Pumped → List ℕ
members_of_pumped pumps.Empty = codes "\"words\":[\"empty\"]"
members_of_pumped pumps.Left = codes "\"words\":[\"left\"]"

-- ---- any of them

abbrev pub members_of : Answer → List ℕ
members_of (answers.Access issued) = members_of_issued issued
members_of (answers.Eviction evicted) = members_of_evicted evicted
members_of (answers.Delivery delivered) = members_of_delivered delivered
members_of (answers.Reply handed) = members_of_handed handed
members_of (answers.Word shown) = members_of_word shown
members_of (answers.Made pick) = members_of_made pick
members_of (answers.Pump pumped) = members_of_pumped pumped
