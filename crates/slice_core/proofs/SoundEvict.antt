-- An eviction, and a reply that is handed out, keep the invariant.
use Rattle.std.proofs.Common.{◌<◌, length, Option, Some, None, sym, subst}
use Rattle.address_map.specs.declared.address.CoreId.{CoreId}
use Rattle.address_map.specs.declared.address.LineAddr.{LineAddr}
use Rattle.slice_answer.specs.declared.answer.Evicted.{Evicted}
use Rattle.slice_core_theory.proofs.BlocksCalls.{faithful_evicted, faithful_handed}
use Rattle.slice_core_theory.proofs.KeptByCalls.{evicted_keeps, handed_keeps}
use Rattle.slice_core_theory.specs.Whole.{IsWhole}
use Rattle.slice_core_spec.specs.Calls.{PartsView, AfterEvict, AfterHand}
use Rattle.slice_log.specs.declared.entry.Numbered.{Numbered}
use Rattle.slice_core.proofs.AccountsEvict.{keeps-evict}
use Rattle.slice_core.proofs.AccountsHand.{keeps-hand}
use Rattle.slice_core.proofs.AccountsKept.{keeps-from_sound, sound-from_keeps}
use Rattle.slice_core.proofs.Coherent.{addressed, whole}
use Rattle.slice_core.proofs.LinksSteps.{links_accesses}
use Rattle.slice_core.specs.Sound.{HasLinks, IsSound}

-- An eviction keeps the invariant.
pub sound-evict : (old : PartsView) (core : CoreId) (line : LineAddr) (answer : Evicted) (new : PartsView) →
    IsSound old → core.0 < length old.view.caches → AfterEvict old core line answer new → IsSound new
sound-evict old core line answer new sound known after =
    let outside = whole old sound in
    sound-from_keeps new (keeps-evict old core line answer new (keeps-from_sound old sound) known after)
    (evicted_keeps IsWhole HasLinks links_accesses old core line answer new outside outside known sound.links after)
    (faithful_evicted old core line answer new outside (addressed old sound) known sound.faithful after)

-- A reply that is handed out keeps the invariant.
pub sound-hand : (old : PartsView) (core : CoreId) (answer : Option Numbered) (new : PartsView) → IsSound old →
    core.0 < length old.view.caches → AfterHand old core answer new → IsSound new
sound-hand old core None new sound known after = subst IsSound (sym after.1) sound
sound-hand old core (Some given) new sound known after =
    sound-from_keeps new (keeps-hand old core (Some given) new (keeps-from_sound old sound) known after)
    (handed_keeps IsWhole HasLinks links_accesses old core (Some given) new known sound.links after)
    (faithful_handed old core (Some given) new known sound.faithful after)
