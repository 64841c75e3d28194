-- What the calls of a slice rely on, from its invariant.
use Rattle.std.proofs.Common.{◌≤◌, length, ap, ⊎_elim, arith}
use Rattle.std.specs.Prelude.{All}
use Rattle.std.proofs.lemmas.Bool.{cases_lt}
use Rattle.std.proofs.lemmas.List.Elements.{All-nil}
use Rattle.address_map.specs.declared.address.CoreId.{CoreId}
use Rattle.address_map.specs.declared.address.Local.{Local}
use Rattle.mshr_file.specs.Miss.{targets_of}
use Rattle.slice_core_cache.specs.CoreCache.{CoreCacheView}
use Rattle.slice_core_cache.specs.Targets.{IsPerformable}
use Rattle.slice_core_spec.specs.Calls.{PartsView, CanDeliver}
use Rattle.slice_core_spec.specs.View.{cache_at}
use Rattle.slice_core_theory.proofs.StandingFacts.{all-performable, waiting-line}
use Rattle.slice_core.proofs.AccountsFacts.{cache-missing}
use Rattle.slice_core.proofs.CountedStats.{waiting-within}
use Rattle.slice_core.specs.Sound.{IsSound}

-- ---- issue and evict

module _ (p : PartsView) (sound : IsSound p) where
  -- ---- deliver

  -- No more wait for a line of a core, if it is there, than wait in all.
  waiting-least : (core : CoreId) (local : Local) → length (targets_of (cache_at p.view core).misses local.0)
      ≤ p.pending
  waiting-least core local =
      ⊎_elim
      (λ known.
      let line = waiting-line (cache_at p.view core).misses local.0 in
      let all = waiting-within p core sound.counted known in
      omega (arith, line, all))
      (λ past.
      let none = ap (λ (s : CoreCacheView). length (targets_of s.misses local.0)) (cache-missing p.view core past) in
      omega (arith, none))
      (cases_lt core.0 (length p.view.caches))

  performable : (core : CoreId) (local : Local) → All IsPerformable (targets_of (cache_at p.view core).misses local.0)
  performable core local =
      ⊎_elim
      (λ known.
      all-performable p.view.log (cache_at p.view core).misses local.0 (sound.accounts.accounts core known).waits)
      (λ past. rw (cache-missing p.view core past) (All-nil IsPerformable))
      (cases_lt core.0 (length p.view.caches))

  pub can-deliver : CanDeliver p
  can-deliver = record {
    shaped = sound.counted.shaped;
    performable = performable;
    room = λ core local.
        let least = waiting-least core local in
        let fits = sound.counted.room in
        omega (arith, least, fits);
    pending = waiting-least;
  }
