-- Counts and accounts after a reply is handed out.
use Rattle.std.proofs.Common.{◌<◌, length, Option, Some, None, refl, sym, subst}
use Rattle.address_map.specs.declared.address.CoreId.{CoreId}
use Rattle.slice_core_cache.specs.Steps as caches
use Rattle.slice_core_spec.specs.Calls.{PartsView, AfterHand}
use Rattle.slice_core_spec.specs.View.{cache_at}
use Rattle.slice_log.specs.declared.entry.Numbered.{Numbered}
use Rattle.slice_core.proofs.AccountsKept.{Keeps, keeps-handed}

pub keeps-hand : (old : PartsView) (core : CoreId) (answer : Option Numbered) (new : PartsView) → Keeps old
    → core.0 < length old.view.caches → AfterHand old core answer new → Keeps new
keeps-hand old core None new keeps known after = subst Keeps (sym after.1) keeps
keeps-hand old core (Some given) new keeps known after =
    subst Keeps (sym after.3)
    (keeps-handed old core (caches.after_hand (cache_at old.view core) after.0) after.0 given.number known after.1.0
    refl
    refl refl keeps)
