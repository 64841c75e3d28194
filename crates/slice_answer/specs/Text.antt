-- What the answers print.
use Rattle.std.specs.Prelude.{ℕ, List, ◌++◌, codes}
use Rattle.slice_answer.specs.declared.answer.Refused.{Refused}
use Rattle.slice_answer.specs.declared.answer.Refused.TheVariants as refusals
use Rattle.slice_answer.specs.declared.answer.Stall.{Stall}
use Rattle.slice_answer.specs.declared.answer.Stall.TheVariants as stalls
use Rattle.slice_answer.specs.declared.answer.Evicted.{Evicted}
use Rattle.slice_answer.specs.declared.answer.Evicted.TheVariants as evictions
use Rattle.slice_answer.specs.declared.answer.Cell.{Cell}
use Rattle.slice_answer.specs.declared.answer.Cell.TheVariants as cells
use Rattle.slice_answer.specs.declared.answer.Delivered.{Delivered}
use Rattle.slice_answer.specs.declared.answer.Delivered.TheVariants as delivered

-- the number and the name of a refusal
abbrev pub text_of_refused : Refused → List ℕ
text_of_refused refusals.OutOfRange = codes "1 OutOfRange"
text_of_refused refusals.TagRange = codes "2 TagRange"
text_of_refused refusals.TagBusy = codes "3 TagBusy"
text_of_refused refusals.CounterStore = codes "4 CounterStore"
text_of_refused refusals.Memory = codes "5 Memory"
text_of_refused refusals.WrongSlice = codes "6 WrongSlice"
text_of_refused (refusals.Ahead length) = codes "8 Ahead"

-- the number and the name of a stall
abbrev pub text_of_stall : Stall → List ℕ
text_of_stall stalls.NoRegister = codes "1 NoRegister"
text_of_stall stalls.NoTarget = codes "2 NoTarget"
text_of_stall stalls.NoWay = codes "3 NoWay"
text_of_stall stalls.WriteBackFull = codes "4 WriteBackFull"
text_of_stall stalls.WriteBackBusy = codes "5 WriteBackBusy"

-- what became of an eviction
abbrev pub text_of_evicted : Evicted → List ℕ
text_of_evicted evictions.Evicting = codes "evicting"
text_of_evicted evictions.NotHeld = codes "not held"
text_of_evicted evictions.Busy = codes "busy"
text_of_evicted evictions.WriteBackFull = codes "buffer full"

-- why a message can't be taken
abbrev pub text_of_cell : Cell → List ℕ
text_of_cell cells.Entry = codes "entry"
text_of_cell cells.Full = codes "full"
text_of_cell cells.Early = codes "early"

-- what became of a delivery
abbrev pub text_of_delivered : Delivered → List ℕ
text_of_delivered delivered.Moved = codes "moved"
text_of_delivered delivered.Blocked = codes "blocked"
text_of_delivered delivered.Nothing = codes "nothing"
text_of_delivered (delivered.Broken cell) = codes "broken " ++ text_of_cell cell
