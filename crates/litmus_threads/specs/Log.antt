-- A slice's log, built from receipts.
use Rattle.std.specs.Prelude.{◌≡◌, ℕ, ◌<◌, List, Contains, Some, length, slice_get}
use Rattle.address_map.specs.declared.address.SliceId.{SliceId}
use Rattle.receipt_ledger.specs.declared.receipt.Receipt.{Receipt}
use Rattle.slice_log.specs.declared.entry.Entry.{Entry}

-- the receipt is that of the entry of this number of the slice's log
abbrev pub IsNumbered : SliceId → ℕ → Receipt → Type 0
IsNumbered slice number r = (r.slice ≡ slice) × (r.number ≡ number)

-- By number, the receipts of the slice are the entries of this log: each has the entry of its number, none is missing.
pub record AreEntriesOf (slice : SliceId) (receipts : List Receipt) (log : List Entry) : Type 0 where
  pub genuine : (r : Receipt) → Contains receipts r → r.slice ≡ slice → slice_get log r.number ≡ Some r.entry
  pub whole : (number : ℕ) → number < length log → (r : Receipt) × Contains receipts r × IsNumbered slice number r
