-- What the count of a slice's book says of each core.
use Rattle.std.specs.Prelude.{◌≡◌, ℕ, ◌+◌, List, [], ◌∷◌}
use Rattle.address_map.specs.declared.config.Config.{Config}
use Rattle.receipt_ledger.specs.Booked.{IsTied}
use Rattle.receipt_ledger.specs.Totals.{Totals}
use Rattle.slice_core.specs.Facts.{Holds}
use Rattle.slice_core_cache.specs.CoreCache.{CoreCacheView}
use Rattle.slice_core_spec.specs.Calls.{PartsView}

-- the requests that were accepted, of all cores
abbrev pub accepted_by : List CoreCacheView → ℕ
accepted_by [] = 0
accepted_by (cache ∷ caches) = cache.accepted + accepted_by caches

-- A book that belongs to a sound state counts as accepted what the state's cores had accepted.
abbrev pub AcceptedAreTheCores : Type 0
AcceptedAreTheCores =
    (c : Config) (number : ℕ) (t : Totals) (p : PartsView) → IsTied c number t p → Holds p
    → t.accepted ≡ accepted_by p.view.caches
