-- What all ports of a slice have together once it is settled.
use Rattle.std.specs.Prelude.{◌≡◌, ℕ, ◌+◌, ◌%◌, ◌^◌, List, length, map}
use Rattle.address_map.specs.Words.{initial_value}
use Rattle.address_map.specs.declared.config.Config.{Config}
use Rattle.receipt_ledger.specs.History.{AreHeld, AreHistory, receipts_in}
use Rattle.receipt_ledger.specs.Port.{PortView, entries_of}
use Rattle.receipt_ledger.specs.Settled.{accepted_in}
use Rattle.address_map.specs.Place.{counters_of, init_of}
use Rattle.slice_log.specs.Log.{IsLegal, IsOrdered, initially, named, value}
use Rattle.slice_log.specs.declared.entry.Entry.{Entry}
use Rattle.slice_core_spec.specs.View.{View, IsQuiet}
use Rattle.slice_lock.specs.declared.slice.Unsettled.{Unsettled}
use Rattle.slice_lock.specs.declared.slice.Unsettled.TheVariants as unsettled_kinds

-- As many receipts as requests were accepted. By number they are exactly a log, which is legal and in each core's
-- order. And these are the values of the slice's counters, ascending by word: each is what the log leaves there, and
-- that is its initial value and what the receipts add to it, modulo 2^64.
pub record AreSettled (c : Config) (number : ℕ) (ports : List PortView) (values : List ℕ) : Type 0 where
  pub handed : length (receipts_in ports) ≡ accepted_in ports
  pub log : List Entry
  pub history : AreHistory ports log
  pub legal : IsLegal (initially (init_of c number)) log
  pub ordered : IsOrdered log
  pub performed : values ≡ map (λ word. value (initially (init_of c number) word.0) log word.0) (counters_of c number)
  pub values_are :
      values
      ≡ map (λ word. (initial_value c.init word + named (entries_of (receipts_in ports)) word.0) % 2 ^ 64)
      (counters_of c number)

-- Why the slice isn't settled with these ports.
abbrev pub IsUnsettledBy : View → List PortView → Unsettled → Type 0
IsUnsettledBy v ports unsettled_kinds.NotQuiet = IsQuiet v → ⊥
IsUnsettledBy v ports unsettled_kinds.Differs = IsQuiet v × (AreHeld ports v.log → ⊥)
