-- What an access of a history found in a word, what it left there, and the entry of a trace that performs it.
use Rattle.std.specs.Prelude.{ℕ, ◌+◌, ◌%◌, ◌^◌, ◌==◌, if◌then◌else◌, Option, Some, None}
use Rattle.address_map.specs.declared.request.Op.{Op}
use Rattle.address_map.specs.declared.request.Op.TheVariants as ops
use Rattle.slice_log.specs.declared.entry.Entry.{Entry}
use Rattle.history_judge.specs.declared.access.Access.{Access}

-- The entry that performs an access. Its seq is the access's place in the history, so a core's entries are in its
-- order if their seqs ascend.
abbrev pub entry_of : ℕ → Access → Entry
entry_of number a = record {
  op = a.op;
  word = a.word;
  seq = number;
  reply = a.reply;
  since = 0;
  core = a.core;
  tag = 0;
}

-- the value that an access found
abbrev pub found_from : Op → ℕ → Option ℕ
found_from (ops.Store new) reply = None
found_from ops.Load reply = Some reply
found_from (ops.Add delta) reply = Some reply
found_from (ops.Cas expect new) reply = Some reply

abbrev pub found_by : Access → Option ℕ
found_by a = found_from a.op a.reply

-- the new value, if it isn't the old one
abbrev pub changed : ℕ → ℕ → Option ℕ
changed was now = if was == now then None else Some now

-- the value that an access with this reply left in its word, if it isn't the one that it found
abbrev pub left_by : Op → ℕ → Option ℕ
left_by ops.Load reply = None
left_by (ops.Store new) reply = Some (new % 2 ^ 64)
left_by (ops.Add delta) reply = changed reply ((reply + delta) % 2 ^ 64)
left_by (ops.Cas expect new) reply = changed reply (if reply == expect then new % 2 ^ 64 else reply)

-- what an access found in this word, and what it left there: nothing, if it is of another
abbrev pub found_in : ℕ → Access → Option ℕ
found_in w a = if a.word.0 == w then found_by a else None

abbrev pub left_in : ℕ → Access → Option ℕ
left_in w a = if a.word.0 == w then left_by a.op a.reply else None
