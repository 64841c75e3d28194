-- Calls of a slice that leave its book as it is.
use Rattle.std.specs.Prelude.{ℕ, []}
use Rattle.address_map.specs.declared.config.Config.{Config}
use Rattle.receipt_ledger.specs.Booked.{IsTied}
use Rattle.receipt_ledger.specs.Totals.{Totals}
use Rattle.slice_core.specs.Facts.{IsSameSlice}
use Rattle.slice_core_theory.specs.Shows.{Leads, Performs}
use Rattle.slice_core_spec.specs.Calls.{PartsView}

-- A book that belongs to a state belongs to the state that a delivery leaves: what a delivery performs, if anything, was
-- accepted before and isn't handed out yet.
abbrev pub DeliveriesKeepTheBook : Type 0
DeliveriesKeepTheBook =
    (c : Config) (number : ℕ) (t : Totals) (old new : PartsView) → IsTied c number t old → IsSameSlice old new
    → Performs old.view new.view → IsTied c number t new

-- So does it to the state that a call leaves which is no step of the small machine, as an eviction.
abbrev pub NoStepKeepsTheBook : Type 0
NoStepKeepsTheBook =
    (c : Config) (number : ℕ) (t : Totals) (old new : PartsView) → IsTied c number t old → IsSameSlice old new
    → Leads [] old.view new.view → IsTied c number t new
