-- The value of a word after a list of performed accesses, and what makes a log of them legal and ordered.
use Rattle.std.specs.Prelude.{◌≡◌, ℕ, ◌+◌, ◌/◌, ◌%◌, ◌^◌, ◌<◌, ◌≤◌, ◌==◌, Bool, not, if◌then◌else◌, List, reverse, take}
use Rattle.std.specs.Prelude.{sum_by, find, take_while, slice_get, Option, Some, None, is_some, unwrap_or}
use Rattle.std.specs.Prelude.{option_and_then}
use Rattle.address_map.specs.Words.{initial_value}
use Rattle.address_map.specs.declared.address.WordAddr.{WordAddr}
use Rattle.address_map.specs.declared.request.Op.{Op}
use Rattle.address_map.specs.declared.request.Op.TheVariants as ops
use Rattle.slice_log.specs.declared.entry.Entry.{Entry}
use Rattle.slice_log.specs.Op.{reply_of}

-- what an access that got this reply stored: a compare-exchange counts as a store of its new value where it replied
-- what it expected
abbrev pub stored_by : Op → ℕ → Option ℕ
stored_by ops.Load reply = None
stored_by (ops.Store new) reply = Some new
stored_by (ops.Add delta) reply = None
stored_by (ops.Cas expect new) reply = if reply == expect then Some new else None

-- what an access adds
abbrev pub added_by : Op → ℕ
added_by ops.Load = 0
added_by (ops.Store new) = 0
added_by (ops.Add delta) = delta
added_by (ops.Cas expect new) = 0

-- what the entry stored to the word, if anything
abbrev pub stored_to : ℕ → Entry → Option ℕ
stored_to w e = if e.word.0 == w then stored_by e.op e.reply else None

-- what the entry added to the word
abbrev pub added_to : ℕ → Entry → ℕ
added_to w e = if e.word.0 == w then added_by e.op else 0

abbrev pub is_store : ℕ → Entry → Bool
is_store w e = is_some (stored_to w e)

-- The value of a word after the entries: what the last store to it stored, or its initial value where there is
-- none, plus all that was added to it since, modulo 2^64. (The data value of the Primer, with fetch-and-add
-- and compare-exchange as writes.)
unfoldable pub value : ℕ → List Entry → ℕ → ℕ
value initial log w =
    let newest_first = reverse log in
    (unwrap_or (option_and_then (stored_to w) (find (is_store w) newest_first)) initial
    + sum_by (added_to w) (take_while (λ e. not (is_store w e)) newest_first)) % 2 ^ 64

-- what one more entry makes of a word's value
abbrev pub value_past : Option ℕ → ℕ → ℕ → ℕ
value_past None v more = (v + more) % 2 ^ 64
value_past (Some new) v more = new % 2 ^ 64

-- the value that each word begins with, where these words have values of their own
abbrev pub initially : List (WordAddr × ℕ) → ℕ → ℕ
initially init w = initial_value init (record { 0 = w })

-- A log is legal: each entry's reply is the one that the value of its word before it gives.
pub record IsLegal (initial : ℕ → ℕ) (log : List Entry) : Type 0 where
  pub replies : (k : ℕ) (e : Entry) → slice_get log k ≡ Some e →
      e.reply ≡ reply_of e.op (value (initial e.word.0) (take k log) e.word.0)

-- of two entries of one core on one line the second was asked for later
abbrev pub IsAfter : Entry → Entry → Type 0
IsAfter d e = d.core ≡ e.core → d.word.0 / 8 ≡ e.word.0 / 8 → d.seq < e.seq

-- A log is ordered: each core's entries on a line are in the order in which it asked for them, and no entry was
-- performed before it was asked for.
pub record IsOrdered (log : List Entry) : Type 0 where
  pub core_order : (j k : ℕ) (d e : Entry) → j < k → slice_get log j ≡ Some d → slice_get log k ≡ Some e → IsAfter d e
  pub since : (k : ℕ) (e : Entry) → slice_get log k ≡ Some e → e.since ≤ k

-- the sum of all that the entries add to a word, as a whole number
abbrev pub named : List Entry → ℕ → ℕ
named entries w = sum_by (added_to w) entries
