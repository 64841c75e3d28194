-- Counts and accounts after an eviction.
use Rattle.std.proofs.Common.{◌<◌, length, Option, Some, None, refl, sym, subst}
use Rattle.address_map.specs.Locator.{local_at}
use Rattle.address_map.specs.declared.address.CoreId.{CoreId}
use Rattle.address_map.specs.declared.address.LineAddr.{LineAddr}
use Rattle.address_map.specs.declared.address.Local.{Local}
use Rattle.slice_answer.specs.declared.answer.Evicted.{Evicted}
use Rattle.slice_answer.specs.declared.answer.Evicted.TheVariants as evictions
use Rattle.slice_core_spec.specs.Calls.{PartsView, AfterEvict, AfterEvictAt, AfterEvicted}
use Rattle.slice_core_spec.specs.Steps.{after_evict}
use Rattle.slice_core_spec.specs.View.{cache_at}
use Rattle.slice_core_cache.specs.CoreCache.{array_copy}
use Rattle.slice_core_cache.specs.Steps as caches
use Rattle.slice_core.proofs.AccountsIssue.{keeps-leaving}
use Rattle.slice_core.proofs.AccountsKept.{Keeps, keeps-ring}

module _ (old : PartsView) (core : CoreId) (line : LineAddr) (answer : Evicted) (new : PartsView)
    (keeps : Keeps old) (known : core.0 < length old.view.caches) where
  answered : (local : Local) (given : Evicted) → AfterEvicted given old core local new → Keeps new
  answered local evictions.Evicting after =
      let cache = cache_at old.view core in
      subst Keeps (sym after)
      (keeps-ring _ _
      (keeps-leaving old core (caches.after_evict cache local) local (caches.put_of (array_copy cache local)) known
      (record { misses = refl; tags = refl; accepted = refl }) keeps))
  answered local evictions.Busy after = subst Keeps (sym after) keeps
  answered local evictions.NotHeld after = subst Keeps (sym after) keeps
  answered local evictions.WriteBackFull after = subst Keeps (sym after) keeps

  placed : (place : Option Local) → AfterEvictAt place old core answer new → Keeps new
  placed None after = subst Keeps (sym after.1) keeps
  placed (Some local) after = answered local answer after.1

  pub keeps-evict : AfterEvict old core line answer new → Keeps new
  keeps-evict after = placed (local_at old.view.lines line.0) after
