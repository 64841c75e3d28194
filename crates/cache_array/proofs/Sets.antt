-- The array: what each call leaves of its values and its sets.
use Rattle.std.proofs.Common.{◌≡◌, ◌≢◌, ℕ, ◌-◌, ◌%◌, ◌<◌, Bool, true, List, [], ◌∷◌, ◌++◌, length, replicate, get_or}
use Rattle.std.proofs.Common.{set, refl, ap, sym, ◌∙◌, subst, arith, inl, inr, Option, Some, None, IsTrue, IsSome}
use Rattle.std.proofs.Common.{is_some, if◌then◌else◌, bit_and}
use Rattle.std.specs.Int.{is_power_of_two, IsPowerOfTwo}
use Rattle.std.specs.Set.{remove_key}
use Rattle.std.proofs.Math.Nat.{mod-lt}
use Rattle.std.proofs.lemmas.Bool.{cases_eq}
use Rattle.std.proofs.lemmas.List.{length-set, length-replicate, get_or-replicate, get_or_default, get_or-set_same}
use Rattle.std.proofs.lemmas.List.{get_or-set_other}
use Rattle.std.proofs.lemmas.List.Elements.{All-nil}
use Rattle.std.proofs.lemmas.Map.Views.{All-remove_key}
use Rattle.address_map.specs.declared.address.Local.{Local}
use Rattle.cache_array.specs.declared.set.Slot.{Slot}
use Rattle.cache_array.specs.History.{is_line, moved_to_end}
use Rattle.cache_array.specs.Set.{SetView, empty_set, lines_of, value_in, after_insert, after_write, after_use}
use Rattle.cache_array.specs.Set.{after_remove}
use Rattle.cache_array.specs.Array.{ArrayView, set_index, set_of, slots_at, with_slots, lines_at, held_at, HasWay}
use Rattle.cache_array.specs.Array.{empty_array, IsSet, IsArray, SetsOnly}
use Rattle.cache_array.proofs.Orders.{apart-removed, apart-pushed, apart-moved, all-pushed, all-moved}
use Rattle.cache_array.proofs.Powers.{power_some, power_from_ones, masked}
use Rattle.cache_array.proofs.Slots as one

-- a line's set is there
pub index_within : {V P : Type 0} (array : ArrayView V P) (line : Local) → IsArray array →
    set_index array line < length array.sets
index_within array line sound = mod-lt line.0 (power_some (length array.sets) sound.power)

-- the mask picks the line's set
pub set_masked : {V P : Type 0} (inside now : ArrayView V P) (line : Local) (sets : ℕ) → inside ≡ now → IsArray inside →
    sets ≡ length inside.sets → bit_and line.0 (sets - 1) ≡ set_index now line
set_masked {V = V} {P = P} inside now line sets e sound long =
    ap (λ n. bit_and line.0 (n - 1)) long
    ∙ masked line.0 (length inside.sets) sound.power
    ∙ ap (λ (a : ArrayView V P). set_index a line) e

-- an array in which no line is, of a power of two of sets
empty_array_sound : {V P : Type 0} (sets ways : ℕ) (policy : P) → IsPowerOfTwo sets →
    IsArray {V = V} {P = P} (empty_array sets ways policy)
empty_array_sound {V = V} sets ways policy power =
    let empty : SetView V = empty_set ways in
    let long = length-replicate sets empty in record {
      power = subst IsPowerOfTwo (sym long) power;
      each =
          λ k lt.
          subst (IsSet (length (replicate sets empty)) k)
          (sym (get_or-replicate sets k empty (empty_set 0) (omega (arith, long))))
          (record {
            its_own = All-nil (λ line. line.0 % length (replicate sets empty) ≡ k);
            distinct = λ i j d lt within. absurd (omega arith);
            few = omega arith;
          });
    }

pub made_sound : {V P : Type 0} (all : List (SetView V)) (made sets ways : ℕ) (policy : P) →
    all ≡ replicate made (empty_set ways) → made ≡ sets → IsTrue (is_power_of_two sets) →
    IsArray {V = V} {P = P} (record { sets = all; policy = policy })
made_sound {V = V} {P = P} all made sets ways policy e f power =
    let array : ArrayView V P = empty_array made ways policy in
    subst (λ (s : List (SetView V)). IsArray (record array { sets = s })) (sym e)
    (empty_array_sound made ways policy (power_from_ones made (ap is_power_of_two f ∙ power)))

-- the set that was written, and another
pub set-same : {V P : Type 0} (array : ArrayView V P) (line : Local) (slots : List (Slot V)) (other : Local) →
    set_index array line < length array.sets → set_index array other ≡ set_index array line →
    set_of (with_slots array line slots) other ≡ record (set_of array line) { slots = slots }
set-same {V = V} array line slots other within same =
    let new : SetView V = record (set_of array line) { slots = slots } in
    ap (λ n. get_or (set array.sets (set_index array line) new) (other.0 % n) (empty_set 0))
    (length-set array.sets (set_index array line) new)
    ∙ ap (λ i. get_or (set array.sets (set_index array line) new) i (empty_set 0)) same
    ∙ get_or-set_same array.sets (set_index array line) new (empty_set 0) within

pub slots-same : {V P : Type 0} (array : ArrayView V P) (line : Local) (slots : List (Slot V)) (other : Local) →
    set_index array line < length array.sets → set_index array other ≡ set_index array line →
    slots_at (with_slots array line slots) other ≡ slots
slots-same {V = V} array line slots other within same =
    ap (λ (s : SetView V). s.slots) (set-same array line slots other within same)

pub slots-other : {V P : Type 0} (array : ArrayView V P) (line : Local) (slots : List (Slot V)) (other : Local) →
    set_index array other ≢ set_index array line →
    slots_at (with_slots array line slots) other ≡ slots_at array other
slots-other {V = V} array line slots other apart =
    let new : SetView V = record (set_of array line) { slots = slots } in
    ap (λ n. (get_or (set array.sets (set_index array line) new) (other.0 % n) (empty_set 0)).slots)
    (length-set array.sets (set_index array line) new)
    ∙ ap (λ (s : SetView V). s.slots)
    (get_or-set_other array.sets (set_index array line) (set_index array other) new (empty_set 0) apart)

-- the values, from those of the line's set
pub sets_only : {V P : Type 0} (array : ArrayView V P) (line : Local) (slots : List (Slot V)) (value : Option V) →
    IsArray array → value_in slots line ≡ value →
    ((other : Local) → other.0 ≢ line.0 → value_in slots other ≡ value_in (slots_at array line) other) →
    SetsOnly array (with_slots array line slots) line value
sets_only {V = V} array line slots value sound there others = record {
  there = ap (λ (s : List (Slot V)). value_in s line) (slots-same array line slots line (index_within array line sound)
      refl) ∙ there;
  others =
      λ other ne.
      elim (cases_eq (set_index array other) (set_index array line)) [
        | inl same ↦
            ap (λ (s : List (Slot V)). value_in s other)
            (slots-same array line slots other (index_within array line sound) same)
            ∙ others other ne
            ∙ ap (λ i. value_in (get_or array.sets i (empty_set 0)).slots other) (sym same)
        | inr apart ↦ ap (λ (s : List (Slot V)). value_in s other) (slots-other array line slots other apart)
      ];
}

-- the lines of the line's set
lines_there : {V P : Type 0} (array : ArrayView V P) (line : Local) (slots : List (Slot V)) → IsArray array →
    lines_at (with_slots array line slots) line ≡ lines_of slots
lines_there {V = V} array line slots sound =
    ap (λ (s : List (Slot V)). lines_of s) (slots-same array line slots line (index_within array line sound) refl)

-- every set is in order again if the line's is
pub is_array : {V P : Type 0} (array : ArrayView V P) (line : Local) (slots : List (Slot V)) → IsArray array →
    IsSet (length array.sets) (set_index array line) (record (set_of array line) { slots = slots }) →
    IsArray (with_slots array line slots)
is_array {V = V} array line slots sound here =
    let new : SetView V = record (set_of array line) { slots = slots } in
    let index = set_index array line in
    let long = length-set array.sets index new in record {
      power = subst IsPowerOfTwo (sym long) sound.power;
      each =
          λ k lt.
          let within : k < length array.sets = omega arith in
          subst (λ n. IsSet n k (get_or (set array.sets index new) k (empty_set 0))) (sym long)
          (elim (cases_eq k index) [
            | inl same ↦
                subst (λ i. IsSet (length array.sets) i (get_or (set array.sets index new) i (empty_set 0))) (sym same)
                (subst (IsSet (length array.sets) index)
                (sym (get_or-set_same array.sets index new (empty_set 0) (index_within array line sound))) here)
            | inr apart ↦
                subst (IsSet (length array.sets) k) (sym (get_or-set_other array.sets index k new (empty_set 0) apart))
                (sound.each k within)
          ]);
    }

pub its_set : {V P : Type 0} (array : ArrayView V P) (line : Local) → IsArray array →
    IsSet (length array.sets) (set_index array line) (set_of array line)
its_set array line sound = sound.each (set_index array line) (index_within array line sound)

-- what a call leaves: an array, the line's value and no other changed, and the lines of its set
pub record Leaves {V P : Type 0} (old new : ArrayView V P) (line : Local) (value : Option V)
    (lines : List Local) : Type 0 where
  pub sound : IsArray new
  pub held : SetsOnly old new line value
  pub order : lines_at new line ≡ lines

pub leaves-insert : {V P : Type 0} (array : ArrayView V P) (line : Local) (value : V) → IsArray array →
    held_at array line ≡ None → HasWay array line →
    Leaves array (with_slots array line (after_insert (slots_at array line) line value)) line (Some value)
    (remove_key (is_line line) (lines_at array line) ++ line ∷ [])
leaves-insert {V = V} array line value sound absent room =
    let slots = slots_at array line in
    let old = its_set array line sound in
    let none = one.none_held line slots absent in
    let lines = one.lines-insert slots line value in record {
      sound = is_array array line (after_insert slots line value) sound (record {
        its_own =
            rw lines (all-pushed (λ other. other.0 % length array.sets ≡ set_index array line) line
            (lines_of slots) refl old.its_own);
        distinct = rw lines (apart-pushed line (lines_of slots) none old.distinct);
        few = omega (arith, room, one.length-insert slots line value);
      });
      held = sets_only array line (after_insert slots line value) (Some value) sound
          (one.value-insert slots line value absent) (one.others-insert slots line value);
      order =
          lines_there array line (after_insert slots line value) sound
          ∙ lines
          ∙ ap (λ ls. ls ++ line ∷ []) (sym (one.removed-none line (lines_of slots) none));
    }

pub leaves-write : {V P : Type 0} (array : ArrayView V P) (line : Local) (value : V) → IsArray array →
    is_some (held_at array line) ≡ true →
    Leaves array (with_slots array line (after_write (slots_at array line) line value)) line (Some value)
    (lines_at array line)
leaves-write {V = V} array line value sound held =
    let slots = slots_at array line in
    let old = its_set array line sound in
    let lines = one.lines-write slots line value in record {
      sound = is_array array line (after_write slots line value) sound (record {
        its_own = rw lines old.its_own;
        distinct = rw lines old.distinct;
        few = omega (arith, old.few, one.length-write slots line value);
      });
      held = sets_only array line (after_write slots line value) (Some value) sound
          (one.value-write slots line value held) (one.others-write slots line value);
      order = lines_there array line (after_write slots line value) sound ∙ lines;
    }

pub leaves-use : {V P : Type 0} (array : ArrayView V P) (line : Local) → IsArray array →
    Leaves array (with_slots array line (after_use true (slots_at array line) line)) line (held_at array line)
    (moved_to_end (is_line line) (lines_at array line))
leaves-use {V = V} array line sound =
    let slots = slots_at array line in
    let old = its_set array line sound in
    let lines = one.lines-use slots line in record {
      sound = is_array array line (after_use true slots line) sound (record {
        its_own =
            rw lines (all-moved (λ other. other.0 % length array.sets ≡ set_index array line) line
            (lines_of slots) refl old.its_own);
        distinct = rw lines (apart-moved line (lines_of slots) old.distinct);
        few = omega (arith, old.few, one.length-use slots line);
      });
      held = sets_only array line (after_use true slots line) (held_at array line) sound
          (one.value-use slots line old.distinct) (one.others-use slots line);
      order = lines_there array line (after_use true slots line) sound ∙ lines;
    }

pub leaves-remove : {V P : Type 0} (array : ArrayView V P) (line : Local) → IsArray array →
    Leaves array (with_slots array line (after_remove (slots_at array line) line)) line None
    (remove_key (is_line line) (lines_at array line))
leaves-remove {V = V} array line sound =
    let slots = slots_at array line in
    let old = its_set array line sound in
    let lines = one.lines-remove slots line in record {
      sound = is_array array line (after_remove slots line) sound (record {
        its_own =
            rw lines (All-remove_key (is_line line) (λ other. other.0 % length array.sets ≡ set_index array line)
            (lines_of slots) old.its_own);
        distinct = rw lines (apart-removed line (lines_of slots) old.distinct);
        few = omega (arith, old.few, one.length-after_remove slots line);
      });
      held = sets_only array line (after_remove slots line) None sound (one.value-remove slots line old.distinct)
          (one.others-remove slots line);
      order = lines_there array line (after_remove slots line) sound ∙ lines;
    }

-- the set that was read is the line's
pub slots_read : {V P : Type 0} (inside now : ArrayView V P) (line : Local) (index : ℕ) (found : SetView V) →
    inside ≡ now → IsArray inside → index ≡ set_index now line → found ≡ get_or inside.sets index found →
    found.slots ≡ slots_at now line
slots_read {V = V} {P = P} inside now line index found e sound at is =
    let here = at ∙ sym (ap (λ (a : ArrayView V P). set_index a line) e) in
    let within : index < length inside.sets =
    subst (λ i. i < length inside.sets) (sym here) (index_within inside line sound) in
    ap (λ (s : SetView V). s.slots)
    (is ∙ get_or_default inside.sets index found (empty_set 0) within
    ∙ ap (λ i. get_or inside.sets i (empty_set 0)) here)
    ∙ ap (λ (a : ArrayView V P). slots_at a line) e

-- the array, its line's set changed through a reference
changed : {V P : Type 0} (inside now : ArrayView V P) (line : Local) (index : ℕ) (found new : SetView V)
    (change : List (Slot V) → List (Slot V)) →
    inside ≡ now → IsArray inside → index ≡ set_index now line → found ≡ get_or inside.sets index found →
    new ≡ record found { slots = change found.slots } →
    ◌≡◌ {A = ArrayView V P} (with_slots now line (change (slots_at now line)))
    (record { sets = set inside.sets index new; policy = inside.policy })
changed {V = V} {P = P} inside now line index found new change e sound at is f =
    let within : index < length inside.sets =
    subst (λ i. i < length inside.sets) (ap (λ (a : ArrayView V P). set_index a line) e ∙ sym at)
    (index_within inside line sound) in
    let same : found ≡ set_of inside line =
    is ∙ get_or_default inside.sets index found (empty_set 0) within
    ∙ ap (λ i. get_or inside.sets i (empty_set 0)) (at ∙ sym (ap (λ (a : ArrayView V P). set_index a line) e)) in
    let with_set : ℕ → SetView V → ArrayView V P =
    λ i s. record { sets = set inside.sets i s; policy = inside.policy } in
    ap (λ (a : ArrayView V P). with_slots a line (change (slots_at a line))) (sym e)
    ∙ ap (λ i. with_set i (record (set_of inside line) { slots = change (slots_at inside line) }))
    (ap (λ (a : ArrayView V P). set_index a line) e ∙ sym at)
    ∙ ap (with_set index) (ap (λ (s : SetView V). record s { slots = change s.slots }) (sym same) ∙ sym f)

-- what each call leaves, in terms of the array as its set was changed through a reference
pub insert_leaves : {V P : Type 0} (inside now : ArrayView V P) (line : Local) (value : V) (index : ℕ)
    (found new : SetView V) →
    inside ≡ now → IsArray inside → index ≡ set_index now line → found ≡ get_or inside.sets index found →
    new ≡ record found { slots = after_insert found.slots line value } → held_at now line ≡ None → HasWay now line →
    Leaves now (record { sets = set inside.sets index new; policy = inside.policy }) line (Some value)
    (remove_key (is_line line) (lines_at now line) ++ line ∷ [])
insert_leaves {V = V} {P = P} inside now line value index found new e sound at is f absent room =
    let after = changed inside now line index found new (λ slots. after_insert slots line value) e sound at is f in
    let left = leaves-insert now line value (subst IsArray e sound) absent room in
    subst (λ (a : ArrayView V P). Leaves now a line (Some value)
    (remove_key (is_line line) (lines_at now line) ++ line ∷ [])) after left

pub write_leaves : {V P : Type 0} (inside now : ArrayView V P) (line : Local) (value : V) (index : ℕ)
    (found new : SetView V) →
    inside ≡ now → IsArray inside → index ≡ set_index now line → found ≡ get_or inside.sets index found →
    new ≡ record found { slots = after_write found.slots line value } → IsSome (held_at now line) →
    Leaves now (record { sets = set inside.sets index new; policy = inside.policy }) line (Some value)
    (lines_at now line)
write_leaves {V = V} {P = P} inside now line value index found new e sound at is f held =
    let after = changed inside now line index found new (λ slots. after_write slots line value) e sound at is f in
    let left = leaves-write now line value (subst IsArray e sound) held in
    subst (λ (a : ArrayView V P). Leaves now a line (Some value) (lines_at now line)) after left

pub use_leaves : {V P : Type 0} (inside now : ArrayView V P) (line : Local) (index : ℕ) (found new : SetView V) →
    inside ≡ now → IsArray inside → index ≡ set_index now line → found ≡ get_or inside.sets index found →
    new ≡ record found { slots = after_use true found.slots line } →
    Leaves now (record { sets = set inside.sets index new; policy = inside.policy }) line (held_at now line)
    (moved_to_end (is_line line) (lines_at now line))
use_leaves {V = V} {P = P} inside now line index found new e sound at is f =
    let after = changed inside now line index found new (λ slots. after_use true slots line) e sound at is f in
    let left = leaves-use now line (subst IsArray e sound) in
    subst (λ (a : ArrayView V P). Leaves now a line (held_at now line)
    (moved_to_end (is_line line) (lines_at now line))) after left

pub remove_leaves : {V P : Type 0} (inside now : ArrayView V P) (line : Local) (index : ℕ) (found new : SetView V) →
    inside ≡ now → IsArray inside → index ≡ set_index now line → found ≡ get_or inside.sets index found →
    new ≡ record found { slots = after_remove found.slots line } →
    Leaves now (record { sets = set inside.sets index new; policy = inside.policy }) line None
    (remove_key (is_line line) (lines_at now line))
remove_leaves {V = V} {P = P} inside now line index found new e sound at is f =
    let after = changed inside now line index found new (λ slots. after_remove slots line) e sound at is f in
    let left = leaves-remove now line (subst IsArray e sound) in
    subst (λ (a : ArrayView V P). Leaves now a line None (remove_key (is_line line) (lines_at now line))) after left

-- the order after a use where uses move slots
pub moved_if : (moves : Bool) (lines moved kept : List Local) → moves ≡ true → lines ≡ moved →
    lines ≡ (if moves then moved else kept)
moved_if moves lines moved kept e f = f ∙ sym (ap (λ b. if b then moved else kept) e)
