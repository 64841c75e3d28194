-- A slice in which nothing was asked for yet shows a machine in which nothing was.
use Rattle.std.proofs.Common.{◌≡◌, ◌≢◌, ℕ, zero, suc, [], replicate, get_or, refl, sym, ◌∙◌, subst, ⊎_elim, arith}
use Rattle.std.specs.Prelude.{Contains}
use Rattle.std.proofs.lemmas.Bool.{cases_lt}
use Rattle.std.proofs.lemmas.List.{get_or_past}
use Rattle.address_map.specs.declared.address.CoreId.{CoreId}
use Rattle.address_map.specs.declared.address.SliceId.{SliceId}
use Rattle.address_map.specs.declared.config.Config.{Config}
use Rattle.mshr_file.specs.Miss.{Bound, targets_of}
use Rattle.slice_core_cache.specs.CoreCache.{CoreCacheView, new_cache, tag_at}
use Rattle.slice_core_cache.specs.declared.tags.TagState.TheVariants as tag_states
use Rattle.slice_core_theory.proofs.Kept.{Free_apart}
use Rattle.slice_core_theory.proofs.Requests.{none-contained}
use Rattle.slice_core_theory.specs.SmallMachine.{IsSame, new_small_machine}
use Rattle.slice_core_theory.specs.Shows.{small_machine_of}
use Rattle.slice_core_spec.specs.Calls.{IsNew, PartsView}
use Rattle.slice_core_spec.specs.View.{no_cache, cache_at}

-- a core that asked for nothing: it waits for nothing, and none of its tags names an entry
record HasAskedNothing (cache : CoreCacheView) : Type 0 where
  misses : cache.misses ≡ []
  names : (tag number : ℕ) → tag_at cache tag ≢ tag_states.Performed number

new-asked_nothing : (config : Config) (bound : Bound) (slice core : ℕ)
    → HasAskedNothing (new_cache config bound slice core)
new-asked_nothing config bound slice core = record {
  misses = refl;
  names = λ tag number names. Free_apart number (sym (always 64 tag) ∙ names);
}
  where
    always : (n k : ℕ) → get_or (replicate n tag_states.Free) k tag_states.Free ≡ tag_states.Free
    always zero k = refl
    always (suc n) zero = refl
    always (suc n) (suc k) = always n k

module _ (config : Config) (bound : Bound) (slice : SliceId) (p : PartsView) (is : IsNew config bound slice p) where
  each_asked_nothing : (core : CoreId) → HasAskedNothing (cache_at p.view core)
  each_asked_nothing core =
      ⊎_elim
      (λ known.
      subst HasAskedNothing (sym (is.caches.each core.0 known)) (new-asked_nothing config bound slice.0 core.0))
      (λ past.
      let count = is.caches.count_is in
      subst HasAskedNothing (sym (get_or_past p.view.caches core.0 no_cache (omega (arith, past, count))))
      (record { misses = refl; names = λ tag number names. Free_apart number names }))
      (cases_lt core.0 config.cores)

  pub new_shows : IsSame new_small_machine (small_machine_of p.view)
  new_shows = record {
    log = sym is.log;
    waiting = λ r. (
      λ none. absurd none,
      λ waits.
          none-contained waits.target
          (subst (λ misses. Contains (targets_of misses waits.local.0) waits.target) (each_asked_nothing r.core).misses
          waits.there),
    );
    replies = λ number. (
      λ none. absurd none,
      λ named. (each_asked_nothing named.core).names named.tag number named.names,
    );
  }
