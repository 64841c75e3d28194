-- What an array holds after each change of a line's slot, as equations about the array alone, and that it is in order
-- again.
use Rattle.std.proofs.Common.{◌≡◌, ◌≢◌, ℕ, ◌<◌, Bool, true, false, List, length, get_or, refl, ap, sym, ◌∙◌, subst}
use Rattle.std.proofs.Common.{arith, inl, inr, Some, None, IsSome, position, eq-eqb}
use Rattle.std.proofs.lemmas.Bool.{cases_eq}
use Rattle.address_map.specs.declared.address.Local.{Local}
use Rattle.cache_array.specs.declared.set.Slot.{Slot}
use Rattle.cache_array.specs.Set.{SetView, empty_set, holds, value_in, after_insert, after_write, after_use}
use Rattle.cache_array.specs.Set.{after_remove}
use Rattle.cache_array.specs.Array.{ArrayView, set_index, slots_at, with_slots, held_at, HasWay, IsArray}
use Rattle.cache_array.specs.Victim.{ShareSet}
use Rattle.cache_array.proofs.Places.{position-written}
use Rattle.cache_array.proofs.Slots.{value-insert, others-insert, others-write, length-held_removed}
use Rattle.cache_array.proofs.Sets.{index_within, set-same, slots-same, slots-other, sets_only, is_array, its_set}
use Rattle.cache_array.proofs.Sets.{leaves-insert, leaves-write, leaves-use, leaves-remove}

module _ {V P : Type 0} (array : ArrayView V P) (line : Local) (sound : IsArray array) where
  -- the line's value is the one that was written, every other is as it was, and it stays where it was
  pub written_held : (value : V) → IsSome (held_at array line) →
      held_at (with_slots array line (after_write (slots_at array line) line value)) line ≡ Some value
  written_held value held = (leaves-write array line value sound held).held.there

  pub written_other : (value : V) (other : Local) → other.0 ≢ line.0 →
      held_at (with_slots array line (after_write (slots_at array line) line value)) other ≡ held_at array other
  written_other value other ne =
      let slots = slots_at array line in
      (sets_only array line (after_write slots line value) _ sound refl (others-write slots line value)).others other ne

  pub written_place : (value : V) →
      position (holds line) (slots_at (with_slots array line (after_write (slots_at array line) line value)) line)
      ≡ position (holds line) (slots_at array line)
  written_place value =
      let slots = slots_at array line in
      let slot : Slot V = record { line = line; value = value } in
      ap (position (holds line))
      (slots-same array line (after_write slots line value) line (index_within array line sound) refl)
      ∙ position-written (holds line) slots slot (eq-eqb line.0 line.0 refl)

  pub written_sound : (value : V) → IsSome (held_at array line) →
      IsArray (with_slots array line (after_write (slots_at array line) line value))
  written_sound value held = (leaves-write array line value sound held).sound

  -- a use changes no value, of this line or another
  pub used_held : (moves : Bool) (other : Local) →
      held_at (with_slots array line (after_use moves (slots_at array line) line)) other ≡ held_at array other
  used_held true other =
      elim (cases_eq other.0 line.0) [
        | inl same ↦
            let named : ℕ → Local = λ n. record { 0 = n } in
            let used = with_slots array line (after_use true (slots_at array line) line) in
            subst (λ l. held_at used l ≡ held_at array l) (sym (ap named same)) (leaves-use array line sound).held.there
        | inr apart ↦ (leaves-use array line sound).held.others other apart
      ]
  used_held false other =
      ap (λ (s : List (Slot V)). value_in s other)
      (elim (cases_eq (set_index array other) (set_index array line)) [
        | inl same ↦
            slots-same array line (slots_at array line) other (index_within array line sound) same
            ∙ ap (λ i. (get_or array.sets i (empty_set 0)).slots) (sym same)
        | inr apart ↦ slots-other array line (slots_at array line) other apart
      ])

  pub used_sound : (moves : Bool) → IsArray (with_slots array line (after_use moves (slots_at array line) line))
  used_sound true = (leaves-use array line sound).sound
  used_sound false = is_array array line (slots_at array line) sound (its_set array line sound)

  -- the line's value is the one that came in, and every other is as it was
  pub inserted_held : (value : V) → held_at array line ≡ None →
      held_at (with_slots array line (after_insert (slots_at array line) line value)) line ≡ Some value
  inserted_held value absent =
      let slots = slots_at array line in
      (sets_only array line (after_insert slots line value) (Some value) sound (value-insert slots line value absent)
      (others-insert slots line value)).there

  pub inserted_other : (value : V) (other : Local) → other.0 ≢ line.0 →
      held_at (with_slots array line (after_insert (slots_at array line) line value)) other ≡ held_at array other
  inserted_other value other ne =
      let slots = slots_at array line in
      (sets_only array line (after_insert slots line value) _ sound refl (others-insert slots line value)).others other
      ne

  pub inserted_sound : (value : V) → held_at array line ≡ None → HasWay array line →
      IsArray (with_slots array line (after_insert (slots_at array line) line value))
  inserted_sound value absent room = (leaves-insert array line value sound absent room).sound

  -- the line isn't held any more, and every other value is as it was
  pub removed_held : held_at (with_slots array line (after_remove (slots_at array line) line)) line ≡ None
  removed_held = (leaves-remove array line sound).held.there

  pub removed_other : (other : Local) → other.0 ≢ line.0 →
      held_at (with_slots array line (after_remove (slots_at array line) line)) other ≡ held_at array other
  removed_other other ne = (leaves-remove array line sound).held.others other ne

  pub removed_sound : IsArray (with_slots array line (after_remove (slots_at array line) line))
  removed_sound = (leaves-remove array line sound).sound

  -- and where it was held, its set has room for another
  pub removed_way : (other : Local) → ShareSet array line other → IsSome (held_at array line) →
      HasWay (with_slots array line (after_remove (slots_at array line) line)) other
  removed_way other shares held =
      subst (λ (s : SetView V). length s.slots < s.ways)
      (sym (set-same array line (after_remove (slots_at array line) line) other (index_within array line sound) shares))
      (omega (arith, (its_set array line sound).few, length-held_removed (slots_at array line) line held))

-- these, for tactics
pub ruleset changes = (
  written_held,
  written_other,
  written_place,
  written_sound,
  used_held,
  used_sound,
  inserted_held,
  inserted_other,
  inserted_sound,
  removed_held,
  removed_other,
  removed_sound,
  removed_way,
)
