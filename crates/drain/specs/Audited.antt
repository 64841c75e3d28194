-- What an audit says of a machine's cores.
use Rattle.std.specs.Prelude.{◌≡◌, ℕ, ◌+◌, ◌<◌, ◌%◌, ◌^◌, List, filter, length, map}
use Rattle.address_map.specs.Words.{initial_value}
use Rattle.address_map.specs.declared.address.WordAddr.{WordAddr}
use Rattle.address_map.specs.declared.config.Config.{Config}
use Rattle.core_thread_system.specs.Core.{CoreView}
use Rattle.drain.specs.Receipts.{accepted_by, ports_of, receipts_by_core}
use Rattle.drain.specs.Whole.{AreWhole}
use Rattle.drain.specs.declared.report.CounterValue.{CounterValue}
use Rattle.receipt_ledger.specs.Port.{entries_of}
use Rattle.receipt_ledger.specs.declared.receipt.Receipt.{Receipt}
use Rattle.slice_log.specs.Log.{named}
use Rattle.address_map.specs.Place.{is_of_slice}
use Rattle.slice_lock.specs.Settled.{AreSettled}

-- The slice of this number is settled with the cores' ports: the receipts that they have of it are exactly a log, each
-- number once, which is legal and in each core's order.
abbrev pub IsSettledSlice : Config → List CoreView → ℕ → Type 0
IsSettledSlice c cores slice = (values : List ℕ) × AreSettled c slice (ports_of cores slice) values

-- So is each slice below this number.
abbrev pub AreSettledBelow : Config → List CoreView → ℕ → Type 0
AreSettledBelow c cores limit = (slice : ℕ) → slice < limit → IsSettledSlice c cores slice

-- a word's value once all that the receipts add to it is added to its initial value
abbrev pub value_after : Config → List Receipt → WordAddr → ℕ
value_after c receipts word = (initial_value c.init word + named (entries_of receipts) word.0) % 2 ^ 64

-- a counter with that value
abbrev pub counter_after : Config → List Receipt → WordAddr → CounterValue
counter_after c receipts word = record { word = word; value = value_after c receipts word }

-- the values, of these, of the slice's counters
abbrev pub values_in : Config → ℕ → List CounterValue → List ℕ
values_in c slice counters =
    map (λ counter. counter.value) (filter (λ counter. is_of_slice c slice counter.word) counters)

-- Each slice is settled with the cores' ports, and left these values in its counters.
abbrev pub AreSettledWith : Config → List CoreView → List CounterValue → Type 0
AreSettledWith c cores counters =
    (slice : ℕ) → slice < c.slices → AreSettled c slice (ports_of cores slice) (values_in c slice counters)

-- The cores are those of the machine, each once. The receipts are all of theirs, by core, then slice, then in the order
-- in which they were handed out, and as many as requests were accepted. Each counter, in the configured order, has the
-- value that its slice's log leaves there, and that is its initial value and what all receipts add to it, modulo 2^64.
-- And each slice has a history.
pub record IsAudited (c : Config) (cores : List CoreView) (receipts : List Receipt) (counters : List CounterValue)
    : Type 0 where
  pub whole : AreWhole c cores
  pub receipts_are : receipts ≡ receipts_by_core c cores
  pub accepted : length receipts ≡ accepted_by c cores
  pub counters_are : counters ≡ map (counter_after c receipts) c.counters
  pub history : AreSettledWith c cores counters
