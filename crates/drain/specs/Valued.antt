-- The values of counters while slices are settled one after the other.
use Rattle.std.specs.Prelude.{ℕ, ◌+◌, ◌/◌, ◌%◌, ◌^◌, nat_lt, if◌then◌else◌, List}
use Rattle.address_map.specs.Words.{initial_value}
use Rattle.address_map.specs.declared.address.WordAddr.{WordAddr}
use Rattle.address_map.specs.declared.config.Config.{Config}
use Rattle.core_thread_system.specs.Core.{CoreView}
use Rattle.drain.specs.Receipts.{ports_of}
use Rattle.drain.specs.declared.report.CounterValue.{CounterValue}
use Rattle.receipt_ledger.specs.History.{receipts_in}
use Rattle.receipt_ledger.specs.Port.{entries_of}
use Rattle.slice_log.specs.Log.{named}
use Rattle.address_map.specs.Place.{is_of_slice}

-- the number of the slice that has the word
abbrev pub home_of : Config → WordAddr → ℕ
home_of c word = word.0 / 8 % c.slices

-- a counter of a settled slice: its initial value and what the cores' receipts of that slice add to it
abbrev pub settled_value : Config → List CoreView → WordAddr → ℕ
settled_value c cores word =
    (initial_value c.init word + named (entries_of (receipts_in (ports_of cores (home_of c word)))) word.0) % 2 ^ 64

-- the counter once its slice is settled
abbrev pub settled_counter : Config → List CoreView → WordAddr → CounterValue
settled_counter c cores word = record { word = word; value = settled_value c cores word }

-- a counter before any slice is settled
abbrev pub unset_counter : WordAddr → CounterValue
unset_counter word = record { word = word; value = 0 }

-- a counter once this slice is settled
abbrev pub with_slice : Config → List CoreView → ℕ → CounterValue → CounterValue
with_slice c cores slice counter =
    if is_of_slice c slice counter.word then settled_counter c cores counter.word else counter

-- a counter once the slices below this number are settled
abbrev pub with_slices : Config → List CoreView → ℕ → WordAddr → CounterValue
with_slices c cores limit word =
    if nat_lt (home_of c word) limit then settled_counter c cores word else unset_counter word
