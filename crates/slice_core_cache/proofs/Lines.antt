-- What a step leaves of a core's lines: one line changes, and every other is as it was.
use Rattle.std.proofs.Common.{◌≡◌, ◌≢◌, true, Option, Some, None, IsSome, IfSome, subst, refl, sym, ◌∙◌, ap, inl, inr}
use Rattle.std.proofs.lemmas.Bool.{cases_eq}
use Rattle.address_map.specs.declared.address.Local.{Local}
use Rattle.cache_array.specs.Array.{held_at as array_at, IsArray}
use Rattle.cache_table.specs.CopyState.{is_leaving}
use Rattle.slice_core_cache.specs.Copy.{found_in}
use Rattle.slice_core_cache.specs.Kept.{IsKept, stands_in_array}
use Rattle.slice_core_cache.specs.CoreCache.{CoreCacheView, copy_of}
use Rattle.slice_core_cache.specs.declared.copy.CacheCopy.{CacheCopy}
use Rattle.writeback_buffer.specs.Buffer.{IsBuffer, held_at as buffer_at}
use Rattle.writeback_buffer.specs.declared.pending.Leaving.{Leaving}

-- the array holds this of the line now, and the buffer this; of every other line both hold what they held
pub record ChangesLine (old new : CoreCacheView) (local : Local) (copy : Option CacheCopy)
    (leaving : Option Leaving) : Type 0 where
  pub in_array : array_at new.array local ≡ copy
  pub in_buffer : buffer_at new.buffer.write_backs local.0 ≡ leaving
  pub array_others : (other : Local) → other.0 ≢ local.0 → array_at new.array other ≡ array_at old.array other
  pub buffer_others : (other : Local) → other.0 ≢ local.0 →
      buffer_at new.buffer.write_backs other.0 ≡ buffer_at old.buffer.write_backs other.0
  pub array_sound : IsArray new.array
  pub buffer_sound : IsBuffer new.buffer

-- what array and buffer may hold of one line
abbrev pub FitsIn : Option CacheCopy → Option Leaving → Type 0
FitsIn (Some copy) (Some leaving) = ⊥
FitsIn (Some copy) None = stands_in_array copy.state ≡ true
FitsIn None (Some leaving) = is_leaving leaving.state ≡ true
FitsIn None None = Unit {0}

module _ (old new : CoreCacheView) (local : Local) (copy : Option CacheCopy) (leaving : Option Leaving)
    (changes : ChangesLine old new local copy leaving) where
  -- the line's copy is the one that array and buffer hold, and every other is as it was
  pub copy_here : copy_of new local ≡ found_in copy leaving
  copy_here =
      ap (λ o. found_in o (buffer_at new.buffer.write_backs local.0)) changes.in_array
      ∙ ap (found_in copy) changes.in_buffer

  pub copy_other : (other : Local) → other.0 ≢ local.0 → copy_of new other ≡ copy_of old other
  copy_other other apart =
      ap (λ o. found_in o (buffer_at new.buffer.write_backs other.0)) (changes.array_others other apart)
      ∙ ap (found_in (array_at old.array other)) (changes.buffer_others other apart)

  -- and copies are where they belong if the line's is
  pub kept_by : IsKept old → FitsIn copy leaving → IsKept new
  kept_by kept fits = record {
    array = changes.array_sound;
    buffer = changes.buffer_sound;
    apart =
        each (λ copy leaving. IsSome copy → leaving ≡ None) (λ other. kept.apart other) (apart_in copy leaving fits);
    held =
        each (λ copy leaving. IfSome copy (λ c. stands_in_array c.state ≡ true)) (λ other. kept.held other)
        (held_in copy leaving fits);
    leaving =
        each (λ copy leaving. IfSome leaving (λ l. is_leaving l.state ≡ true)) (λ other. kept.leaving other)
        (leaving_in copy leaving fits);
  }
    where
      each : (P : Option CacheCopy → Option Leaving → Type 0)
          → ((other : Local) → P (array_at old.array other) (buffer_at old.buffer.write_backs other.0))
          → P copy leaving
          → (other : Local) → P (array_at new.array other) (buffer_at new.buffer.write_backs other.0)
      each P before here other =
          elim (cases_eq other.0 local.0) [
            | inl same ↦
                subst (λ (l : Local). P (array_at new.array l) (buffer_at new.buffer.write_backs l.0))
                (ap (λ n. record { 0 = n }) (sym same))
                (subst (λ o. P o (buffer_at new.buffer.write_backs local.0)) (sym changes.in_array)
                (subst (P copy) (sym changes.in_buffer) here))
            | inr apart ↦
                subst (λ o. P o (buffer_at new.buffer.write_backs other.0)) (sym (changes.array_others other apart))
                (subst (P (array_at old.array other)) (sym (changes.buffer_others other apart)) (before other))
          ]

      apart_in : (copy : Option CacheCopy) (leaving : Option Leaving) → FitsIn copy leaving → IsSome copy →
          leaving ≡ None
      apart_in (Some c) (Some l) fits some = absurd fits
      apart_in (Some c) None fits some = refl
      apart_in None (Some l) fits some = absurd (cc some)
      apart_in None None fits some = refl

      held_in : (copy : Option CacheCopy) (leaving : Option Leaving) → FitsIn copy leaving
          → IfSome copy (λ c. stands_in_array c.state ≡ true)
      held_in (Some c) (Some l) fits = absurd fits
      held_in (Some c) None fits = fits
      held_in None leaving fits = tt

      leaving_in : (copy : Option CacheCopy) (leaving : Option Leaving) → FitsIn copy leaving
          → IfSome leaving (λ l. is_leaving l.state ≡ true)
      leaving_in (Some c) (Some l) fits = absurd fits
      leaving_in None (Some l) fits = fits
      leaving_in (Some c) None fits = tt
      leaving_in None None fits = tt
