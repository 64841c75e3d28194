-- A line that a core evicts: an observer of only requests and replies sees nothing of it.
use Rattle.std.proofs.Common.{◌≡◌, ◌<◌, [], length, Option, Some, None, refl, sym, subst}
use Rattle.address_map.specs.Locator.{local_at}
use Rattle.address_map.specs.declared.address.CoreId.{CoreId}
use Rattle.address_map.specs.declared.address.LineAddr.{LineAddr}
use Rattle.address_map.specs.declared.address.Local.{Local}
use Rattle.slice_answer.specs.declared.answer.Evicted.{Evicted}
use Rattle.slice_answer.specs.declared.answer.Evicted.TheVariants as evictions
use Rattle.slice_core_cache.specs.CoreCache.{CoreCacheView}
use Rattle.slice_core_cache.specs.Steps as caches
use Rattle.slice_core_theory.proofs.Kept.{kept-of, leads-same, same-view}
use Rattle.slice_core_theory.specs.Shows.{Leads}
use Rattle.slice_core_spec.specs.Calls.{PartsView, AfterEvict, AfterEvictAt, AfterEvicted}
use Rattle.slice_core_spec.specs.Steps.{after_evict}
use Rattle.slice_core_spec.specs.View.{cache_at}

module _ (old : PartsView) (core : CoreId) (line : LineAddr) (answer : Evicted) (new : PartsView)
    (known : core.0 < length old.view.caches) where
  unchanged : new ≡ old → Leads [] old.view new.view
  unchanged is =
      subst (λ (p : PartsView). Leads [] old.view p.view) (sym is)
      (leads-same old.view old.view (same-view old.view))

  answered : (local : Local) (given : Evicted) → AfterEvicted given old core local new → Leads [] old.view new.view
  answered local evictions.Evicting done =
      let cache = caches.after_evict (cache_at old.view core) local in
      subst (λ (p : PartsView). Leads [] old.view p.view) (sym done)
      (leads-same old.view (after_evict old.view core local) (record {
        lines = refl;
        init = refl;
        log = refl;
        misses = kept-of (λ (s : CoreCacheView). s.misses) old.view core cache known refl;
        tags = kept-of (λ (s : CoreCacheView). s.tags) old.view core cache known refl;
      }))
  answered local evictions.Busy done = unchanged done
  answered local evictions.NotHeld done = unchanged done
  answered local evictions.WriteBackFull done = unchanged done

  placed : (place : Option Local) → AfterEvictAt place old core answer new → Leads [] old.view new.view
  placed None done = unchanged done.1
  placed (Some local) done = answered local answer done.1

  pub evict_leads : AfterEvict old core line answer new → Leads [] old.view new.view
  evict_leads done = placed (local_at old.view.lines line.0) done
