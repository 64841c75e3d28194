-- What a core is left with once its copy has come to its state, in terms of the copy that was found in the array.
use Rattle.std.proofs.Common.{◌≡◌, ◌++◌, ◌<◌, ◌≤◌, ℕ, zero, suc, Bool, List, [], ◌∷◌, Some, length, take}
use Rattle.std.proofs.Common.{subst, sym, ap, refl, arith}
use Rattle.std.specs.Prelude.{unwrap_or}
use Rattle.address_map.specs.declared.address.CoreId.{CoreId}
use Rattle.address_map.specs.declared.address.Local.{Local}
use Rattle.address_map.specs.declared.config.PolicyKind.{PolicyKind}
use Rattle.cache_array.specs.Array.{ArrayView, held_at as array_at}
use Rattle.mshr_file.specs.Miss.{Bound, targets_of, IsMissFile, TakesTargets}
use Rattle.mshr_file.specs.declared.registers.Register.{Register}
use Rattle.slice_core_cache.specs.Copy.{no_copy}
use Rattle.slice_core_cache.specs.CoreCache.{CoreCacheView, array_copy}
use Rattle.slice_core_cache.specs.Perform.{asks_to_write, entries_of, performed_in, tags_after}
use Rattle.slice_core_cache.specs.Steps.{after_settle, array_after_use, copy_after_settle, used_by, with_copy}
use Rattle.slice_core_cache.specs.declared.copy.CacheCopy.{CacheCopy}
use Rattle.slice_core_cache.specs.declared.tags.TagState.{TagState}
use Rattle.slice_log.specs.declared.entry.Entry.{Entry}
use Rattle.target_list.specs.declared.target.Target.{Target}

-- the targets that the copy allows are performed, and it is left in another state
pub record IsSettled (old : CoreCacheView) (local : Local) (copy left : CacheCopy) (asks : Bool) (misses : List Register)
    (tags : List TagState) (core : CoreId) (first : ℕ) (log0 log : List Entry) : Type 0 where
  pub asks_is : asks ≡ asks_to_write copy.state (targets_of old.misses local.0)
  pub left_is : left ≡ copy_after_settle (targets_of old.misses local.0) copy
  pub taken : TakesTargets old.misses misses local.0 (performed_in copy.state (targets_of old.misses local.0))
  pub sound : IsMissFile old.misses → IsMissFile misses
  pub tags_is : tags ≡ tags_after old.tags (length log0) (performed_in copy.state (targets_of old.misses local.0))
  pub log_is : log ≡ log0
      ++ entries_of core first copy.block (performed_in copy.state (targets_of old.misses local.0))

-- the copy is the one that the array held
pub settled_there : (inside old : CoreCacheView) (local : Local) (copy left : CacheCopy) (asks : Bool)
    (misses : List Register) (tags : List TagState) (core : CoreId) (first : ℕ) (log0 log : List Entry)
    → inside ≡ old → array_at inside.array local ≡ Some copy
    → IsSettled inside local copy left asks misses tags core first log0 log
    → IsSettled old local (array_copy old local) left asks misses tags core first log0 log
settled_there inside old local copy left asks misses tags core first log0 log same held is =
    let found : array_copy inside local ≡ copy = ap (λ o. unwrap_or o no_copy) held in
    subst (λ (c : CoreCacheView). IsSettled c local (array_copy c local) left asks misses tags core first log0 log) same
    (subst (λ (x : CacheCopy). IsSettled inside local x left asks misses tags core first log0 log) (sym found) is)

-- the line is used exactly where a target was performed
pub used_some : (targets taken : List Target) (count : ℕ) (array : ArrayView CacheCopy PolicyKind) (local : Local)
    → take count targets ≡ taken → 0 < count → count ≤ length targets
    → array_after_use array local ≡ used_by taken array local
used_some targets taken zero array local is some few = absurd (omega arith)
used_some [] taken (suc n) array local is some few = absurd (omega arith)
used_some (target ∷ targets) taken (suc n) array local is some few = rw (← is)

pub used_none : (targets taken : List Target) (count : ℕ) (array : ArrayView CacheCopy PolicyKind) (local : Local)
    → take count targets ≡ taken → count ≤ 0 → array ≡ used_by taken array local
used_none targets taken zero array local is none = rw (← is)
used_none targets taken (suc n) array local is none = absurd (omega arith)

-- what the core has then
pub after_settled : (inside old : CoreCacheView) (local : Local) (copy left : CacheCopy) (asks : Bool)
    (misses : List Register) (tags : List TagState) (core : CoreId) (first : ℕ) (log0 log : List Entry)
    (array : ArrayView CacheCopy PolicyKind) (bound : Bound)
    → inside ≡ old → array_at inside.array local ≡ Some copy
    → IsSettled inside local copy left asks misses tags core first log0 log → bound ≡ inside.bound
    → array ≡ used_by (performed_in copy.state (targets_of inside.misses local.0)) (with_copy inside.array local left) local
    → ◌≡◌ {A = CoreCacheView} (record inside { array = array; misses = misses; bound = bound; tags = tags })
    (after_settle old local (length log0) misses)
after_settled inside old local copy left asks misses tags core first log0 log array bound same held is bounded used =
    let targets = targets_of inside.misses local.0 in
    let found : array_copy inside local ≡ copy = ap (λ o. unwrap_or o no_copy) held in
    subst (λ (c : CoreCacheView).
    record inside { array = array; misses = misses; bound = bound; tags = tags } ≡ after_settle c local (length log0) misses)
    same
    (subst (λ (x : CacheCopy).
    ◌≡◌ {A = CoreCacheView} (record inside { array = array; misses = misses; bound = bound; tags = tags })
    (record inside {
      array = used_by (performed_in x.state targets) (with_copy inside.array local (copy_after_settle targets x)) local;
      misses = misses;
      tags = tags_after inside.tags (length log0) (performed_in x.state targets);
    }))
    (sym found) (rw (used, is.left_is, is.tags_is, bounded) refl))
