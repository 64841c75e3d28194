-- A line that leaves for another may leave, shares its set, and is one of the slice.
use Rattle.std.proofs.Common.{◌≡◌, ℕ, ◌<◌, Bool, true, false, List, Option, Some, None, MatchOption, IsSome, IsSomeAnd}
use Rattle.std.proofs.Common.{IfSome, unwrap_or, refl, sym, ap, subst}
use Rattle.address_map.specs.declared.address.CoreId.{CoreId}
use Rattle.address_map.specs.declared.address.Local.{Local}
use Rattle.cache_array.proofs.Choices.{choice_is_allowed}
use Rattle.cache_array.proofs.Victims.{none_may_go, victim_is}
use Rattle.cache_array.specs.Array.{held_at as array_at, slots_at, IsArray}
use Rattle.cache_array.specs.History.{Event}
use Rattle.cache_array.specs.Policy.{choice_of, IsPreferred}
use Rattle.cache_array.specs.Victim.{flags_of, line_in, IsVictim, NoneMayGo, ShareSet}
use Rattle.slice_core_cache.specs.Access.{has_victim}
use Rattle.slice_core_cache.specs.Copy.{may_leave}
use Rattle.slice_core_cache.specs.CoreCache.{CoreCacheView}
use Rattle.slice_core_cache.specs.Steps.{drawn_word, victim_for}
use Rattle.slice_core_cache.specs.declared.access.Placement.{Placement}
use Rattle.slice_core_cache.specs.declared.access.Placement.TheVariants as placements
use Rattle.slice_core_cache.specs.declared.copy.CacheCopy.{CacheCopy}
use Rattle.slice_core_theory.proofs.Accesses.{HasPlaceFor, HasVictim, HasVictimFor}
use Rattle.slice_core_theory.proofs.Evictions.{passing}
use Rattle.slice_core_spec.specs.View.{View, cache_at}

-- The line may leave, and shares the other's set.
record IsChosen (cache : CoreCacheView) (local victim : Local) : Type 0 where
  goes : IsSomeAnd (array_at cache.array victim) (λ copy. may_leave copy.state ≡ true)
  shares : ShareSet cache.array local victim

-- Where some line of the line's set may leave, one is chosen.
chosen : (cache : CoreCacheView) (local : Local) → IsArray cache.array → has_victim cache local ≡ true
    → IsChosen cache local (victim_for cache local)
chosen cache local sound some =
    by (line_in (slots_at cache.array local) choice)
    (victim_is cache.array local leaves false any choice sound
    (choice_is_allowed cache.array.policy flags (drawn_word cache)) (preferred choice))
    refl
  where
    leaves : CacheCopy → Bool
    leaves copy = may_leave copy.state

    any : List Event → Local → Local → Type 0
    any history line other = Unit {0}

    flags : List Bool
    flags = flags_of (λ copy. may_leave copy.state) (slots_at cache.array local)

    choice : Option ℕ
    choice = choice_of cache.array.policy flags (drawn_word cache)

    preferred : (o : Option ℕ) → IfSome o (IsPreferred false any flags)
    preferred None = tt
    preferred (Some place) = λ history slot line other at there goes apart. tt

    by : (victim : Option Local)
        → MatchOption victim (NoneMayGo leaves cache.array local) (IsVictim leaves false any cache.array local)
        → line_in (slots_at cache.array local) choice ≡ victim → IsChosen cache local (victim_for cache local)
    by None none is = let down = (none_may_go cache.array local leaves sound).1 none in absurd (cc (some, down))
    by (Some victim) goes is =
        subst (λ (l : Local). IsChosen cache local l) (ap (λ o. unwrap_or o local) (sym is))
        (record { goes = goes.may_go; shares = goes.same_set })

-- So a way that takes a victim has one.
pub has_victim_for : (v : View) (core : CoreId) (local : Local) (placement : Placement) →
    IsArray (cache_at v core).array
    → ((other : Local) → IsSome (array_at (cache_at v core).array other) → other.0 < v.lines.lines)
    → HasPlaceFor (cache_at v core) local placement → HasVictimFor v core local placement
has_victim_for v core local placements.Held sound own place = tt
has_victim_for v core local placements.Free sound own place = tt
has_victim_for v core local placements.Victim sound own place =
    let cache = cache_at v core in
    let left = chosen cache local sound place.victim in
    let victim : HasVictim v core local = record {
      goes = left.goes;
      shares = left.shares;
      inside = own (victim_for cache local)
          (passing (λ (c : CacheCopy). may_leave c.state) (array_at cache.array (victim_for cache local)) left.goes).0;
    } in victim
