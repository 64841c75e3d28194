-- A line's slot by its place: its value is read there, borrowed there and changed there.
use Rattle.std.proofs.Common.{◌≡◌, ℕ, ◌↔◌, Bool, List, [], ◌∷◌, get_or, set, refl, ap, sym, ◌∙◌, subst, Option, Some}
use Rattle.std.proofs.Common.{None, IsSome, is_some, option_map, find, position}
use Rattle.address_map.specs.declared.address.Local.{Local}
use Rattle.cache_array.specs.declared.set.Slot.{Slot}
use Rattle.cache_array.specs.Set.{SetView, holds, value_in, after_write}
use Rattle.cache_array.specs.Array.{ArrayView, set_index, slots_at, held_at, IsArray}
use Rattle.cache_array.proofs.Orders.{found_passes, same_line}
use Rattle.cache_array.proofs.Places.{found_at, found_none, first_at}
use Rattle.cache_array.proofs.Sets.{slots_read, write_leaves}

-- the slot at the place that a search for the line gave is the line's
its_slot : {V : Type 0} (slots : List (Slot V)) (line : Local) (way : ℕ) (slot : Slot V) →
    position (holds line) slots ≡ Some way → slot ≡ get_or slots way slot → find (holds line) slots ≡ Some slot
its_slot slots line way slot at is = found_at (holds line) slots way slot at ∙ ap Some (sym is)

-- a place is found where an element is
found_if : {X : Type 0} (p : X → Bool) (xs : List X) (way : Option ℕ) → position p xs ≡ way →
    is_some way ≡ is_some (find p xs)
found_if p xs None e = sym (ap is_some (found_none p xs e))
found_if p [] (Some i) e = cc
found_if p (x ∷ xs) (Some i) e = sym (ap is_some (found_at p (x ∷ xs) i x e))

some_mapped : {X Y : Type 0} (f : X → Y) (o : Option X) → is_some (option_map f o) ≡ is_some o
some_mapped f None = refl
some_mapped f (Some x) = refl

-- a line that the set holds has a place
pub place_held : {V : Type 0} (slots : List (Slot V)) (line : Local) (way : Option ℕ) →
    way ≡ position (holds line) slots → is_some way ≡ is_some (value_in slots line)
place_held {V = V} slots line way at =
    found_if (holds line) slots way (sym at) ∙ sym (some_mapped (λ (s : Slot V). s.value) (find (holds line) slots))

-- and its value the line's
pub value_there : {V : Type 0} (inside now : SetView V) (line : Local) (way : ℕ) (slot : Slot V) → inside ≡ now →
    position (holds line) now.slots ≡ Some way → slot ≡ get_or inside.slots way slot →
    value_in now.slots line ≡ Some slot.value
value_there {V = V} inside now line way slot e at is =
    ap (option_map (λ (s : Slot V). s.value))
    (its_slot now.slots line way slot at (is ∙ ap (λ (s : SetView V). get_or s.slots way slot) e))

-- another value left in that slot is written there
pub left_there : {V : Type 0} (inside now : SetView V) (line : Local) (way : ℕ) (slot : Slot V) (value : V) →
    inside ≡ now → position (holds line) now.slots ≡ Some way →
    slot ≡ get_or inside.slots way slot →
    ◌≡◌ {A = SetView V}
    (record { slots = set inside.slots way (record { line = slot.line; value = value }); ways = inside.ways })
    (record now { slots = after_write now.slots line value })
left_there {V = V} inside now line way slot value e at is =
    let found = its_slot now.slots line way slot at (is ∙ ap (λ (s : SetView V). get_or s.slots way slot) e) in
    let same : slot.line ≡ line = same_line line slot.line (found_passes (holds line) now.slots slot found) in
    let with : SetView V → ℕ → Local → SetView V =
    λ s i l. record s { slots = set s.slots i (record { line = l; value = value }) } in
    ap (λ s. with s way slot.line) e
    ∙ ap (with now way) same
    ∙ ap (λ i. with now i line) (sym (first_at (holds line) now.slots way at))

-- what a search of the line's set says of the array
pub found_read : {V P : Type 0} (inside now : ArrayView V P) (line : Local) (index : ℕ) (found : SetView V)
    (way : Option ℕ) → inside ≡ now → IsArray inside → index ≡ set_index now line →
    found ≡ get_or inside.sets index found →
    way ≡ position (holds line) found.slots → IsSome way ↔ IsSome (held_at now line)
found_read {V = V} inside now line index found way e sound at is f =
    let same = slots_read inside now line index found e sound at is in
    let held : is_some way ≡ is_some (held_at now line) =
    place_held found.slots line way f ∙ ap (λ (s : List (Slot V)). is_some (value_in s line)) same in
    ((λ some. sym held ∙ some), (λ some. held ∙ some))

-- a line that was found is held
pub held_there : {V P : Type 0} (array : ArrayView V P) (line : Local) (way : ℕ) →
    position (holds line) (slots_at array line) ≡ Some way → IsSome (held_at array line)
held_there array line way at = sym (place_held (slots_at array line) line (Some way) (sym at))

-- whatever a borrow leaves, the array is in order
pub left_sound : {V P : Type 0} (inside now : ArrayView V P) (line : Local) (way : ℕ) (value : V) (index : ℕ)
    (found : SetView V) → inside ≡ now → IsArray inside → index ≡ set_index inside line →
    found ≡ get_or inside.sets index found →
    position (holds line) (slots_at now line) ≡ Some way →
    IsArray {V = V} {P = P} (record {
      sets = set inside.sets index (record found { slots = after_write found.slots line value });
      policy = inside.policy;
    })
left_sound {V = V} {P = P} inside now line way value index found e sound here is at =
    let left : SetView V = record found { slots = after_write found.slots line value } in
    let stands = subst (λ (a : ArrayView V P). position (holds line) (slots_at a line) ≡ Some way) (sym e) at in
    let held = held_there inside line way stands in
    (write_leaves inside inside line value index found left refl sound here is refl held).sound
