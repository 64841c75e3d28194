-- What is behind a slice's lock, and what is shown of it.
use Rattle.std.specs.Prelude.{◌≡◌, ◌<◌, ℕ}
use Rattle.address_map.specs.declared.address.CoreId.{CoreId}
use Rattle.address_map.specs.declared.config.Config.{Config}
use Rattle.mshr_file.specs.Miss.{Bound}
use Rattle.receipt_ledger.specs.Booked.{IsTied}
use Rattle.receipt_ledger.specs.Slice.{IsSliceOf}
use Rattle.receipt_ledger.specs.Totals.{Totals}
use Rattle.slice_core.specs.Facts.{Holds}
use Rattle.slice_core_spec.specs.Calls.{PartsView}
use Rattle.slice_core_spec.specs.View.{View, cache_at}

-- a slice's state, and the totals of its book
pub record BookedView : Type 0 where
  pub state : PartsView
  pub totals : Totals

-- Each core's miss file has these bounds, by which a machine with its kind of miss files is configured.
abbrev pub AreBounded : Config → Bound → View → Type 0
AreBounded c bound v = (core : CoreId) → core.0 < c.cores → (cache_at v core).bound ≡ bound

-- State and book are those of the slice of this number, of a machine that is configured so.
pub record IsBookedSlice (c : Config) (bound : Bound) (number : ℕ) (b : BookedView) : Type 0 where
  pub tied : IsTied c number b.totals b.state
  pub bounded : AreBounded c bound b.state.view

-- What may be relied on of a state that is looked at: it is one of the slice of this number, of a machine that is
-- configured so, and all that holds of a slice after every call holds of it.
pub record IsShown (c : Config) (bound : Bound) (number : ℕ) (p : PartsView) : Type 0 where
  pub slice : IsSliceOf c number p.view
  pub bounded : AreBounded c bound p.view
  pub holds : Holds p
