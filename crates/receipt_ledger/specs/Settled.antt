-- What all ports of a slice hold together.
use Rattle.std.specs.Prelude.{◌≡◌, ℕ, ◌+◌, ◌%◌, ◌^◌, List, [], ◌∷◌, length, map, slice_get, Some}
use Rattle.address_map.specs.Words.{initial_value}
use Rattle.address_map.specs.declared.address.WordAddr.{WordAddr}
use Rattle.address_map.specs.declared.config.Config.{Config}
use Rattle.receipt_ledger.specs.History.{AreHistory, receipts_in}
use Rattle.receipt_ledger.specs.Port.{PortView, entries_of, held_by}
use Rattle.address_map.specs.Place.{counters_of}
use Rattle.receipt_ledger.specs.Totals.{Totals, nothing, together}
use Rattle.slice_log.specs.Log.{IsLegal, IsOrdered, initially, named, value}
use Rattle.slice_core_spec.specs.View.{View}

-- what the ports hold of the totals
abbrev pub held_in : Config → ℕ → List PortView → Totals
held_in c number [] = nothing
held_in c number (p ∷ ports) = together (held_by c number p) (held_in c number ports)

-- the requests that were accepted through the ports
abbrev pub accepted_in : List PortView → ℕ
accepted_in [] = 0
accepted_in (p ∷ ports) = length p.asked + accepted_in ports

-- The ports of a quiet slice account for it: the requests accepted through them are as many as those handed out, and as
-- the log's entries; the receipts are exactly the log, which is legal and in each core's order; each counter's receipts
-- add up to what the log adds to it; and so does its value, which is the state's, modulo 2^64.
pub record IsSettled (c : Config) (number : ℕ) (v : View) (ports : List PortView) (values : List ℕ) : Type 0 where
  pub accepted : accepted_in ports ≡ length v.log
  pub handed : length (receipts_in ports) ≡ length v.log
  pub history : AreHistory ports v.log
  pub legal : IsLegal (initially v.init) v.log
  pub ordered : IsOrdered v.log
  pub sums : (place : ℕ) (word : WordAddr) → slice_get (counters_of c number) place ≡ Some word
      → named (entries_of (receipts_in ports)) word.0 ≡ named v.log word.0
  pub state : values ≡ map (λ word. value (initially v.init word.0) v.log word.0) (counters_of c number)
  pub named_are :
      values
      ≡ map (λ word. (initial_value c.init word + named (entries_of (receipts_in ports)) word.0) % 2 ^ 64)
      (counters_of c number)
