-- One set: what each call leaves of its values and its lines.
use Rattle.std.proofs.Common.{◌≡◌, ◌≢◌, ℕ, ◌+◌, ◌<◌, ◌≤◌, Bool, true, false, cond, not, List, [], ◌∷◌, ◌++◌, length}
use Rattle.std.proofs.Common.{get_or, set, suc, refl, ap, sym, ◌∙◌, arith, Option, Some, None, option_map}
use Rattle.std.proofs.Common.{option_to_list, find, All, eq-eqb, length-append, is_some, position, remove, slice_get}
use Rattle.std.specs.List.{position_or_len, refill, AllZip}
use Rattle.std.specs.Option.{option_or}
use Rattle.std.specs.Set.{remove_key}
use Rattle.std.proofs.lemmas.Bool.{eqb-true, ne_eqb}
use Rattle.std.proofs.lemmas.List.{map-append, length-set}
use Rattle.std.proofs.lemmas.List.Elements.{All-cons, All-head, All-tail, All-nil}
use Rattle.std.proofs.lemmas.List.Folds.{find-append}
use Rattle.address_map.specs.declared.address.Local.{Local}
use Rattle.cache_array.specs.declared.set.Slot.{Slot}
use Rattle.cache_array.specs.History.{is_line, moved_to_end}
use Rattle.std.proofs.lemmas.Option.{slice_get_within, slice_get-get_or}
use Rattle.cache_array.specs.Policy.{IsAllowed}
use Rattle.cache_array.specs.Victim.{line_in}
use Rattle.cache_array.specs.Set.{SetView, holds, lines_of, value_in, after_insert, after_write, after_use}
use Rattle.cache_array.specs.Set.{after_remove}
use Rattle.cache_array.proofs.Orders.{found_passes, same_line, gone, AreApart}
use Rattle.cache_array.proofs.Places.{remove_key-map, moved_to_end-map, moved_within, popped}

-- a test that fails wherever the other passes sees no removal
find-removed : {X : Type 0} (p q : X → Bool) → ((x : X) → p x ≡ true → q x ≡ false) → (xs : List X) →
    find q (remove_key p xs) ≡ find q xs
find-removed p q apart [] = refl
find-removed {X = X} p q apart (x ∷ xs) = by (p x) (apart x) (find-removed p q apart xs)
  where
    by : (b : Bool) → (b ≡ true → q x ≡ false) → find q (remove_key p xs) ≡ find q xs →
        find q (cond b xs (x ∷ remove_key p xs)) ≡ cond (q x) (Some x) (find q xs)
    by true fails rest = rw (fails refl) refl
    by false fails rest = ap (cond (q x) (Some x)) rest

or-none : {X : Type 0} (o : Option X) → option_or o None ≡ o
or-none None = refl
or-none (Some x) = refl

-- and no move to the end
find-moved : {X : Type 0} (p q : X → Bool) → ((x : X) → p x ≡ true → q x ≡ false) → (xs : List X) →
    find q (moved_to_end p xs) ≡ find q xs
find-moved {X = X} p q apart xs =
    find-append q (remove_key p xs) (option_to_list (find p xs))
    ∙ ap (option_or (find q (remove_key p xs))) (by (find p xs) refl)
    ∙ or-none (find q (remove_key p xs))
    ∙ find-removed p q apart xs
  where
    by : (found : Option X) → find p xs ≡ found → find q (option_to_list found) ≡ None
    by None e = refl
    by (Some x) e = rw (apart x (found_passes p xs x e)) refl

-- a slot of one line is not another's
other_slot : {V : Type 0} (line other : Local) → other.0 ≢ line.0 → (slot : Slot V) → holds line slot ≡ true →
    holds other slot ≡ false
other_slot line other ne slot e =
    ne_eqb slot.line.0 other.0 (λ f. ne (sym f ∙ eqb-true slot.line.0 line.0 e))

none_there : {V : Type 0} (line : Local) (slots : List (Slot V)) →
    All (λ other. is_line line other ≡ false) (lines_of slots) →
    find (holds line) slots ≡ None
none_there line [] none = refl
none_there line (slot ∷ slots) none =
    let rest = none_there line slots (All-tail (λ other. is_line line other ≡ false) slot.line (lines_of slots) none) in
    rw (All-head (λ other. is_line line other ≡ false) slot.line (lines_of slots) none) rest

pub none_held : {V : Type 0} (line : Local) (slots : List (Slot V)) → value_in slots line ≡ None →
    All (λ other. is_line line other ≡ false) (lines_of slots)
none_held line [] e = All-nil (λ other. is_line line other ≡ false)
none_held {V = V} line (slot ∷ slots) e = by (holds line slot) refl e (none_held line slots)
  where
    by : (b : Bool) → holds line slot ≡ b →
        option_map (λ (s : Slot V). s.value) (cond b (Some slot) (find (holds line) slots)) ≡ None →
        (value_in slots line ≡ None → All (λ other. is_line line other ≡ false) (lines_of slots)) →
        All (λ other. is_line line other ≡ false) (slot.line ∷ lines_of slots)
    by true is f rest = cc
    by false is f rest = All-cons (λ other. is_line line other ≡ false) slot.line (lines_of slots) is (rest f)

-- a line comes in
pub lines-insert : {V : Type 0} (slots : List (Slot V)) (line : Local) (value : V) →
    lines_of (after_insert slots line value) ≡ lines_of slots ++ line ∷ []
lines-insert {V = V} slots line value =
    map-append (λ (s : Slot V). s.line) slots (record { line = line; value = value } ∷ [])

pub value-insert : {V : Type 0} (slots : List (Slot V)) (line : Local) (value : V) → value_in slots line ≡ None →
    value_in (after_insert slots line value) line ≡ Some value
value-insert {V = V} slots line value none =
    let new : Slot V = record { line = line; value = value } in
    let here : holds line new ≡ true = eq-eqb line.0 line.0 refl in
    ap (option_map (λ (s : Slot V). s.value))
    (find-append (holds line) slots (new ∷ [])
    ∙ ap (λ o. option_or o (find (holds line) (new ∷ []))) (none_there line slots (none_held line slots none)))
    ∙ ap (λ b. option_map (λ (s : Slot V). s.value) (option_or None (cond b (Some new) None))) here

pub others-insert : {V : Type 0} (slots : List (Slot V)) (line : Local) (value : V) (other : Local) → other.0 ≢ line.0 →
    value_in (after_insert slots line value) other ≡ value_in slots other
others-insert {V = V} slots line value other ne =
    let new : Slot V = record { line = line; value = value } in
    let apart : holds other new ≡ false = ne_eqb line.0 other.0 (λ e. ne (sym e)) in
    ap (option_map (λ (s : Slot V). s.value))
    (find-append (holds other) slots (new ∷ [])
    ∙ ap (λ b. option_or (find (holds other) slots) (cond b (Some new) None)) apart
    ∙ or-none (find (holds other) slots))

pub length-insert : {V : Type 0} (slots : List (Slot V)) (line : Local) (value : V) →
    length (after_insert slots line value) ≡ length slots + 1
length-insert {V = V} slots line value =
    let new : List (Slot V) = record { line = line; value = value } ∷ [] in
    omega (arith, length-append slots new)

-- a line is removed
pub lines-remove : {V : Type 0} (slots : List (Slot V)) (line : Local) →
    lines_of (after_remove slots line) ≡ remove_key (is_line line) (lines_of slots)
lines-remove {V = V} slots line = remove_key-map (λ (s : Slot V). s.line) (is_line line) slots

removed_there : {V : Type 0} (slots : List (Slot V)) (line : Local) → AreApart (lines_of slots) →
    find (holds line) (after_remove slots line) ≡ None
removed_there slots line apart =
    none_there line (after_remove slots line)
    (rw (lines-remove slots line) (gone (λ line later. line.0 ≢ later.0) (λ a b ne. ne) line (lines_of slots) apart))

pub value-remove : {V : Type 0} (slots : List (Slot V)) (line : Local) → AreApart (lines_of slots) →
    value_in (after_remove slots line) line ≡ None
value-remove {V = V} slots line apart =
    ap (option_map (λ (s : Slot V). s.value)) (removed_there slots line apart)

pub others-remove : {V : Type 0} (slots : List (Slot V)) (line other : Local) → other.0 ≢ line.0 →
    value_in (after_remove slots line) other ≡ value_in slots other
others-remove {V = V} slots line other ne =
    ap (option_map (λ (s : Slot V). s.value)) (find-removed (holds line) (holds other) (other_slot line other ne) slots)

-- a line is used
pub lines-use : {V : Type 0} (slots : List (Slot V)) (line : Local) →
    lines_of (after_use true slots line) ≡ moved_to_end (is_line line) (lines_of slots)
lines-use {V = V} slots line = moved_to_end-map (λ (s : Slot V). s.line) (is_line line) slots

pub value-use : {V : Type 0} (slots : List (Slot V)) (line : Local) → AreApart (lines_of slots) →
    value_in (after_use true slots line) line ≡ value_in slots line
value-use {V = V} slots line apart =
    ap (option_map (λ (s : Slot V). s.value))
    (find-append (holds line) (after_remove slots line) (option_to_list (find (holds line) slots))
    ∙ ap (λ o. option_or o (find (holds line) (option_to_list (find (holds line) slots))))
    (removed_there slots line apart)
    ∙ by (find (holds line) slots) refl)
  where
    by : (found : Option (Slot V)) → find (holds line) slots ≡ found →
        option_or None (find (holds line) (option_to_list found)) ≡ found
    by None e = refl
    by (Some slot) e = rw (found_passes (holds line) slots slot e) refl

pub others-use : {V : Type 0} (slots : List (Slot V)) (line other : Local) → other.0 ≢ line.0 →
    value_in (after_use true slots line) other ≡ value_in slots other
others-use {V = V} slots line other ne =
    ap (option_map (λ (s : Slot V). s.value)) (find-moved (holds line) (holds other) (other_slot line other ne) slots)

length-moved : {X : Type 0} (p : X → Bool) (xs : List X) → length (moved_to_end p xs) ≡ length xs
length-moved p [] = refl
length-moved p (x ∷ xs) = by (p x) (length-moved p xs)
  where
    by : (b : Bool) → length (moved_to_end p xs) ≡ length xs →
        length (cond b xs (x ∷ remove_key p xs) ++ option_to_list (cond b (Some x) (find p xs))) ≡ length (x ∷ xs)
    by true rest = omega (arith, length-append xs (x ∷ []))
    by false rest = ap suc rest

pub length-use : {V : Type 0} (slots : List (Slot V)) (line : Local) → length (after_use true slots line) ≡ length slots
length-use slots line = length-moved (holds line) slots

length-removed : {X : Type 0} (p : X → Bool) (xs : List X) → length (remove_key p xs) ≤ length xs
length-removed p [] = omega arith
length-removed p (x ∷ xs) = by (p x) (length-removed p xs)
  where
    by : (b : Bool) → length (remove_key p xs) ≤ length xs → length (cond b xs (x ∷ remove_key p xs)) ≤ length (x ∷ xs)
    by true rest = omega arith
    by false rest = omega arith

pub length-after_remove : {V : Type 0} (slots : List (Slot V)) (line : Local) →
    length (after_remove slots line) ≤ length slots
length-after_remove slots line = length-removed (holds line) slots

pub length-held_removed : {V : Type 0} (slots : List (Slot V)) (line : Local) → is_some (value_in slots line) ≡ true →
    length (after_remove slots line) < length slots
length-held_removed [] line held = cc
length-held_removed {V = V} (slot ∷ slots) line held = by (holds line slot) held (length-held_removed slots line)
  where
    by : (b : Bool) →
        is_some (option_map (λ (s : Slot V). s.value) (cond b (Some slot) (find (holds line) slots))) ≡ true →
        (is_some (value_in slots line) ≡ true → length (after_remove slots line) < length slots) →
        length (cond b slots (slot ∷ after_remove slots line)) < length (slot ∷ slots)
    by true here rest = omega arith
    by false here rest = let less = rest here in omega (arith, less)

-- a line gets another value
pub lines-write : {V : Type 0} (slots : List (Slot V)) (line : Local) (value : V) →
    lines_of (after_write slots line value) ≡ lines_of slots
lines-write [] line value = refl
lines-write {V = V} (slot ∷ slots) line value =
    by (holds line slot) (position_or_len (holds line) slots) refl (lines-write slots line value)
  where
    by : (b : Bool) (n : ℕ) → holds line slot ≡ b → lines_of (set slots n (record { line = line; value = value }))
        ≡ lines_of slots →
        lines_of (set (slot ∷ slots) (cond (not b) (1 + n) 0) (record { line = line; value = value }))
        ≡ slot.line ∷ lines_of slots
    by true n is rest = ap (λ l. l ∷ lines_of slots) (sym (same_line line slot.line is))
    by false n is rest = let next : 1 + n ≡ suc n = omega arith in rw next (ap (λ ls. slot.line ∷ ls) rest)

pub value-write : {V : Type 0} (slots : List (Slot V)) (line : Local) (value : V) →
    is_some (value_in slots line) ≡ true →
    value_in (after_write slots line value) line ≡ Some value
value-write [] line value held = cc
value-write {V = V} (slot ∷ slots) line value held =
    by (holds line slot) (position_or_len (holds line) slots) refl held (value-write slots line value)
  where
    by : (b : Bool) (n : ℕ) → holds line slot ≡ b →
        is_some (option_map (λ (s : Slot V). s.value) (cond b (Some slot) (find (holds line) slots))) ≡ true →
        (is_some (value_in slots line) ≡ true → value_in (set slots n (record { line = line; value = value })) line
        ≡ Some value) →
        value_in (set (slot ∷ slots) (cond (not b) (1 + n) 0) (record { line = line; value = value })) line ≡ Some value
    by true n is there rest = rw (eq-eqb line.0 line.0 refl) refl
    by false n is there rest = let next : 1 + n ≡ suc n = omega arith in rw (next, is) (rest there)

-- a slot in front doesn't tell two equal answers apart
in_front : {V : Type 0} (slot : Slot V) (c : Bool) (m n : Option (Slot V)) →
    option_map (λ (s : Slot V). s.value) m ≡ option_map (λ (s : Slot V). s.value) n →
    option_map (λ (s : Slot V). s.value) (cond c (Some slot) m)
    ≡ option_map (λ (s : Slot V). s.value) (cond c (Some slot) n)
in_front slot true m n e = refl
in_front slot false m n e = e

pub others-write : {V : Type 0} (slots : List (Slot V)) (line : Local) (value : V) (other : Local) → other.0 ≢ line.0 →
    value_in (after_write slots line value) other ≡ value_in slots other
others-write [] line value other ne = refl
others-write {V = V} (slot ∷ slots) line value other ne =
    by (holds line slot) (position_or_len (holds line) slots) refl (others-write slots line value other ne)
  where
    by : (b : Bool) (n : ℕ) → holds line slot ≡ b →
        value_in (set slots n (record { line = line; value = value })) other ≡ value_in slots other →
        value_in (set (slot ∷ slots) (cond (not b) (1 + n) 0) (record { line = line; value = value })) other
        ≡ value_in (slot ∷ slots) other
    by true n is rest =
        let new : is_line other line ≡ false = ne_eqb line.0 other.0 (λ e. ne (sym e)) in
        rw (new, other_slot line other ne slot is) refl
    by false n is rest =
        let next : 1 + n ≡ suc n = omega arith in
        rw next (in_front slot (holds other slot) _ _ rest)

pub length-write : {V : Type 0} (slots : List (Slot V)) (line : Local) (value : V) →
    length (after_write slots line value) ≡ length slots
length-write slots line value =
    length-set slots (position_or_len (holds line) slots) (record { line = line; value = value })

pub removed-none : (line : Local) (lines : List Local) → All (λ other. is_line line other ≡ false) lines →
    remove_key (is_line line) lines ≡ lines
removed-none line [] none = refl
removed-none line (other ∷ lines) none =
    rw (All-head (λ other. is_line line other ≡ false) other lines none)
    (ap (λ ls. other ∷ ls) (removed-none line lines (All-tail (λ other. is_line line other ≡ false) other lines none)))

-- a set is its slots and its ways
pub set_is : {V : Type 0} (set : SetView V) (slots : List (Slot V)) (ways : ℕ) → slots ≡ set.slots → ways ≡ set.ways →
    ◌≡◌ {A = SetView V} (record { slots = slots; ways = ways }) set
set_is {V = V} view slots ways e f =
    let with_slots : List (Slot V) → SetView V = λ s. record { slots = s; ways = ways } in
    let with_ways : ℕ → SetView V = λ w. record { slots = view.slots; ways = w } in
    ap with_slots e ∙ ap with_ways f

-- a use of a line that the set holds, and of one that it doesn't
pub moved_set : {V : Type 0} (line : Local) (inside now : SetView V) (old new : List (Slot V)) (long way : ℕ) →
    long ≡ length inside.slots → inside ≡ now → old ≡ inside.slots → length new ≡ length old →
    position (holds line) now.slots ≡ Some way →
    ((d : Slot V) → new ≡ remove old way ++ get_or old way d ∷ []) →
    ◌≡◌ {A = SetView V} (record { slots = refill long inside.slots new; ways = inside.ways })
    (record now { slots = after_use true now.slots line })
moved_set {V = V} line inside now old new long way l e f kept at moved =
    set_is (record now { slots = after_use true now.slots line }) (refill long inside.slots new) inside.ways
    (ap (λ n. refill n inside.slots new) l
    ∙ moved_within (holds line) now.slots inside.slots old new way (ap (λ (s : SetView V). s.slots) e) f kept at
    moved)
    (ap (λ (s : SetView V). s.ways) e)

-- once the line's slot went to the end it is taken out there
pub popped_set : {V : Type 0} (line : Local) (inside now : SetView V) (old new rest : List (Slot V))
    (last : Slot V) (out : Option (Slot V)) (long way : ℕ) →
    long ≡ length inside.slots → inside ≡ now → position (holds line) now.slots ≡ Some way →
    old ≡ inside.slots → length new ≡ length old →
    ((d : Slot V) → new ≡ remove old way ++ get_or old way d ∷ []) →
    refill long inside.slots new ≡ rest ++ option_to_list out → out ≡ Some last →
    (◌≡◌ {A = SetView V} (record { slots = rest; ways = inside.ways })
    (record now { slots = after_remove now.slots line }))
    × (Some last.value ≡ value_in now.slots line)
popped_set {V = V} line inside now old new rest last out long way l e at f kept moved there is =
    let both =
    popped (holds line) now.slots inside.slots old new rest last way (ap (λ (s : SetView V). s.slots) e) f kept at moved
    (ap (λ n. refill n inside.slots new) (sym l) ∙ there
    ∙ ap (λ (o : Option (Slot V)). rest ++ option_to_list o) is) in (
      set_is (record now { slots = after_remove now.slots line }) rest inside.ways both.0
          (ap (λ (s : SetView V). s.ways) e),
      sym (ap (option_map (λ (slot : Slot V). slot.value)) both.1),
    )

-- one more slot has its answer
pub asked_more : {A B : Type 0} (R : A → B → Type 0) (xs : List A) (ys : List B) (x : A) (y : B) →
    AllZip R xs ys → R x y → AllZip R (xs ++ x ∷ []) (ys ++ y ∷ [])
asked_more R [] [] x y all here = (here, tt)
asked_more R [] (v ∷ ys) x y all here = absurd all
asked_more R (u ∷ xs) [] x y all here = absurd all
asked_more R (u ∷ xs) (v ∷ ys) x y all here = (all.0, asked_more R xs ys x y all.1 here)

length-asked : {A B : Type 0} (R : A → B → Type 0) (xs : List A) (ys : List B) → AllZip R xs ys → length ys ≡ length xs
length-asked R [] [] all = refl
length-asked R [] (v ∷ ys) all = absurd all
length-asked R (u ∷ xs) [] all = absurd all
length-asked R (u ∷ xs) (v ∷ ys) all = ap suc (length-asked R xs ys all.1)

-- a chosen slot is one of the set
pub choice_within : {V : Type 0} (R : Slot V → Bool → Type 0) (slots : List (Slot V)) (flags : List Bool)
    (chosen : Option ℕ) (way : ℕ) →
    AllZip R slots flags → IsAllowed flags chosen → chosen ≡ Some way → way < length slots
choice_within R slots flags chosen way asked allowed e =
    let there = slice_get_within flags way true (rw e at allowed) in
    omega (arith, there, length-asked R slots flags asked)

-- the answers of one closure, expressed in two ways
pub asked_as : {A B : Type 0} (R S : A → B → Type 0) → ((x : A) (y : B) → R x y → S x y) → (xs : List A) (ys : List B) →
    AllZip R xs ys → AllZip S xs ys
asked_as R S same [] [] all = tt
asked_as R S same [] (v ∷ ys) all = absurd all
asked_as R S same (u ∷ xs) [] all = absurd all
asked_as R S same (u ∷ xs) (v ∷ ys) all = (same u v all.0, asked_as R S same xs ys all.1)

-- the line in the chosen slot
pub line_at : {V : Type 0} (slots now : List (Slot V)) (chosen : Option ℕ) (way : ℕ) (slot : Slot V) →
    slots ≡ now → way < length slots → chosen ≡ Some way → slot ≡ get_or slots way slot →
    Some slot.line ≡ line_in now chosen
line_at {V = V} slots now chosen way slot e within at found =
    let there : slice_get slots way ≡ Some slot = slice_get-get_or slots way slot within ∙ ap Some (sym found) in
    sym (ap (line_in now) at
    ∙ ap (λ (s : List (Slot V)). option_map (λ (x : Slot V). x.line) (slice_get s way)) (sym e)
    ∙ ap (option_map (λ (x : Slot V). x.line)) there)
