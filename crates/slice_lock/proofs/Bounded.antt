-- The bounds of the cores' miss files stay as they were configured.
use Rattle.std.proofs.Common.{ap, sym, ◌∙◌}
use Rattle.address_map.specs.declared.address.SliceId.{SliceId}
use Rattle.address_map.specs.declared.config.Config.{Config}
use Rattle.mshr_file.specs.Miss.{Bound}
use Rattle.receipt_ledger.proofs.Tied.{same-part}
use Rattle.slice_core.specs.Facts.{IsSameSlice}
use Rattle.slice_core.specs.Shape.{Shape}
use Rattle.slice_core_cache.specs.CoreCache.{CoreCacheView}
use Rattle.slice_core_spec.specs.Calls.{IsNew, PartsView}
use Rattle.slice_lock.specs.Booked.{AreBounded}

pub new-bounded : (c : Config) (bound : Bound) (slice : SliceId) (p : PartsView) → IsNew c bound slice p
    → AreBounded c bound p.view
new-bounded c bound slice p is core known = ap (λ (cache : CoreCacheView). cache.bound) (is.caches.each core.0 known)

pub kept-bounded : (c : Config) (bound : Bound) (old new : PartsView) → IsSameSlice old new
    → AreBounded c bound old.view
    → AreBounded c bound new.view
kept-bounded c bound old new same bounded core known =
    sym (ap (λ (shape : Shape). shape.bound) (same-part old.view.caches new.view.caches core.0 same.shapes))
    ∙ bounded core known
