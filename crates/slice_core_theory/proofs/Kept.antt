-- What a step of one core leaves of what the slice shows.
use Rattle.std.proofs.Common.{◌≡◌, ◌≢◌, ℕ, ◌<◌, List, [], length, get_or, refl, sym, ap, ◌∙◌, subst, ⊎_elim}
use Rattle.std.specs.Prelude.{slice_set, Contains}
use Rattle.std.proofs.lemmas.Bool.{cases_eq, cases_lt}
use Rattle.std.proofs.lemmas.List.{get_or-set_other, get_or-set_same, get_or_past}
use Rattle.address_map.specs.declared.address.CoreId.{CoreId}
use Rattle.mshr_file.specs.Miss.{targets_of}
use Rattle.mshr_file.specs.declared.registers.Register.{Register}
use Rattle.slice_core_cache.specs.CoreCache.{CoreCacheView, tag_at}
use Rattle.slice_core_cache.specs.declared.tags.TagState.TheVariants as tag_states
use Rattle.slice_core_theory.specs.SmallMachine.{Asked, IsSame}
use Rattle.slice_core_theory.specs.Shows.{Leads, Waits, small_machine_of}
use Rattle.slice_core_spec.specs.View.{View, no_cache, cache_at, with_cache}

pub same_core : (a b : CoreId) → a.0 ≡ b.0 → a ≡ b
same_core a b e = let named : ℕ → CoreId = λ n. record { 0 = n } in ap named e

-- ---- caches

module _ (v : View) (core : CoreId) (cache : CoreCacheView) where
  -- The core has its new cache, and another what it had.
  pub cache-here : core.0 < length v.caches → (other : CoreId) → other.0 ≡ core.0
      → cache_at (with_cache v core cache) other ≡ cache
  cache-here known other same =
      ap (λ n. get_or (slice_set v.caches core.0 cache) n no_cache) same
      ∙ get_or-set_same v.caches core.0 cache no_cache known

  pub cache-there : (other : CoreId) → other.0 ≢ core.0 → cache_at (with_cache v core cache) other ≡ cache_at v other
  cache-there other apart = get_or-set_other v.caches core.0 other.0 cache no_cache apart

-- What a core has where its new cache has the same of it.
pub kept-of : {A : Type 0} (f : CoreCacheView → A) (v : View) (core : CoreId) (cache : CoreCacheView) → core.0
    < length v.caches
    → f cache ≡ f (cache_at v core) → (other : CoreId) → f (cache_at (with_cache v core cache) other)
    ≡ f (cache_at v other)
kept-of f v core cache known same other =
    ⊎_elim
    (λ here.
    ap f (cache-here v core cache known other here) ∙ same
    ∙ ap (λ c. f (cache_at v c)) (sym (same_core other core here)))
    (λ apart. ap f (cache-there v core cache other apart)) (cases_eq other.0 core.0)

pub Free_apart : (number : ℕ) → tag_states.Free ≢ tag_states.Performed number
Free_apart number same = cc

-- A core that has a reply is there.
pub named-known : (v : View) (core : CoreId) (tag number : ℕ) → tag_at (cache_at v core) tag
    ≡ tag_states.Performed number
    → core.0 < length v.caches
named-known v core tag number names =
    ⊎_elim (λ known. known)
    (λ past. absurd (Free_apart number
    (sym (ap (λ (s : CoreCacheView). tag_at s tag) (get_or_past v.caches core.0 no_cache past)) ∙ names)))
    (cases_lt core.0 (length v.caches))

-- ---- the same

-- Each core has the same misses and tags, and the log is the same.
pub record ShowsSame (old new : View) : Type 0 where
  pub lines : new.lines ≡ old.lines
  pub init : new.init ≡ old.init
  pub log : new.log ≡ old.log
  pub misses : (core : CoreId) → (cache_at new core).misses ≡ (cache_at old core).misses
  pub tags : (core : CoreId) → (cache_at new core).tags ≡ (cache_at old core).tags

pub same-view : (v : View) → ShowsSame v v
same-view v = record { lines = refl; init = refl; log = refl; misses = λ core. refl; tags = λ core. refl }

-- A request waits in a slice where it waits in another with the same lines and misses.
pub waits-in : (old new : View) (r : Asked) → new.lines ≡ old.lines
    → (cache_at new r.core).misses ≡ (cache_at old r.core).misses → Waits old r → Waits new r
waits-in old new r lines misses waits = record {
  local = waits.local;
  target = waits.target;
  there =
      subst (λ (m : List Register). Contains (targets_of m waits.local.0) waits.target) (sym misses) waits.there;
  same = rw lines waits.same;
}

shows-same : (old new : View) → ShowsSame old new → IsSame (small_machine_of old) (small_machine_of new)
shows-same old new same = record {
  log = sym same.log;
  waiting = λ r. (
    λ waits. waits-in old new r same.lines (same.misses r.core) waits,
    λ waits. waits-in new old r (sym same.lines) (sym (same.misses r.core)) waits,
  );
  replies = λ number. (
    λ named. record { core = named.core; tag = named.tag; names = rw (same.tags named.core) named.names },
    λ named. record { core = named.core; tag = named.tag; names = rw (sym (same.tags named.core)) named.names },
  );
}

-- So that is no step.
pub leads-same : (old new : View) → ShowsSame old new → Leads [] old new
leads-same old new same = record { init = same.init; run = shows-same old new same }
