-- That a slice's state and its book belong together.
use Rattle.std.specs.Prelude.{◌≡◌, ℕ, ◌+◌, ◌==◌, ◌&&◌, Bool, true, false, List, length, slice_get, Some}
use Rattle.std.specs.List.{list_any}
use Rattle.address_map.specs.declared.address.WordAddr.{WordAddr}
use Rattle.address_map.specs.declared.config.Config.{Config}
use Rattle.address_map.specs.declared.request.Op.{Op}
use Rattle.receipt_ledger.specs.Counted.{AreMarked, handed_out}
use Rattle.receipt_ledger.specs.Slice.{IsSliceOf}
use Rattle.address_map.specs.Place.{counters_of, is_of_slice}
use Rattle.receipt_ledger.specs.Totals.{Totals, totals}
use Rattle.slice_log.specs.declared.entry.Entry.{Entry}
use Rattle.slice_core_theory.specs.SmallMachine.{Asked, SmallMachine}
use Rattle.slice_core_theory.specs.Shows.{small_machine_of}
use Rattle.slice_core_spec.specs.Decision.{overwrites}
use Rattle.slice_core_spec.specs.Calls.{PartsView}

-- whether the access stores to one of the counters
abbrev pub stores_to : List WordAddr → Op → WordAddr → Bool
stores_to counters op word = overwrites op && list_any (λ counter. counter.0 == word.0) counters

-- The slice of this number may perform the access: it is to a word of its own, and stores to none of its counters.
pub record IsServed (c : Config) (number : ℕ) (op : Op) (word : WordAddr) : Type 0 where
  pub own : is_of_slice c number word ≡ true
  pub spares : stores_to (counters_of c number) op word ≡ false

-- The totals are the machine's: the requests that it accepted, which wait or were performed; those handed out; and for
-- each counter the whole-number sum of what these added. All are accesses that the slice of this number may perform.
pub record IsBooked (c : Config) (number : ℕ) (t : Totals) (m : SmallMachine) : Type 0 where
  pub waiting : List Asked
  pub marks : List Bool
  pub counted : AreMarked m waiting marks
  pub totals_are : t ≡ totals (counters_of c number) (length waiting + length m.log) (handed_out m.log marks)
  pub asked : (r : Asked) → m.waiting r → IsServed c number r.op r.word
  pub logged : (place : ℕ) (e : Entry) → slice_get m.log place ≡ Some e → IsServed c number e.op e.word

-- The state is one of the slice of this number, its statistics have the configured setting of the exclusive state, and
-- the totals are its own.
pub record IsTied (c : Config) (number : ℕ) (t : Totals) (p : PartsView) : Type 0 where
  pub slice : IsSliceOf c number p.view
  pub reported : p.stats.exclusive ≡ c.exclusive
  pub booked : IsBooked c number t (small_machine_of p.view)
