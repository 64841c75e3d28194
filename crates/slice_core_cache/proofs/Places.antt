-- Where a line is in its set, after its value was changed in its slot, and after another line of the set left.
use Rattle.std.proofs.Common.{◌≡◌, ◌≢◌, ℕ, ◌%◌, ◌<◌, Bool, true, false, cond, nat_lt, List, length, get_or, set, refl}
use Rattle.std.proofs.Common.{ap, sym, ◌∙◌, subst, inl, inr, Option, Some, None, IsSome, is_some, IsSomeAnd, IfSome}
use Rattle.std.proofs.Common.{MatchOption, position, eq-eqb}
use Rattle.std.specs.List.{position_or_len}
use Rattle.std.proofs.lemmas.Bool.{cases_lt}
use Rattle.std.proofs.lemmas.List.{get_or-set_same, get_or_past, length-set}
use Rattle.std.proofs.lemmas.List.Folds.{position_or_len-set}
use Rattle.std.proofs.lemmas.List.Quantifiers.{position-Some}
use Rattle.address_map.specs.declared.address.Local.{Local}
use Rattle.cache_array.specs.declared.set.Slot.{Slot}
use Rattle.cache_array.specs.Array.{ArrayView, IsArray, HasWay, set_index, set_of, slots_at, with_slots, held_at}
use Rattle.cache_array.specs.Set.{SetView, empty_set, holds, after_write, after_remove}
use Rattle.cache_array.specs.History.{Event}
use Rattle.cache_array.specs.Victim.{ShareSet, NoneMayGo, IsVictim}
use Rattle.cache_array.proofs.Held.{removed_other, removed_way}

-- the place that a search returns is the first that passes
placed : {X : Type 0} (p : X → Bool) (xs : List X) (way : ℕ) → position p xs ≡ Some way →
    position_or_len p xs ≡ way
placed p xs way found = by (nat_lt (position_or_len p xs) (length xs)) found
  where
    by : (b : Bool) → cond b (Some (position_or_len p xs)) None ≡ Some way → position_or_len p xs ≡ way
    by true e = cc
    by false e = cc

-- an element that passes, put where the first one passed, is the first that passes
position-put : {X : Type 0} (p : X → Bool) (xs : List X) (way : ℕ) (y : X) → p y ≡ true → position p xs ≡ Some way →
    position p (set xs (position_or_len p xs) y) ≡ Some way
position-put p xs way y passes found =
    let at = position_or_len p xs in
    let there : p (get_or xs at y) ≡ true =
    subst (λ i. p (get_or xs i y) ≡ true) (sym (placed p xs way found)) (position-Some p xs way y found).1 in
    let same : position_or_len p (set xs at y) ≡ at = position_or_len-set p xs at y y (passes ∙ sym there) in
    ap (λ n. cond (nat_lt n (length (set xs at y))) (Some n) None) same
    ∙ ap (λ n. cond (nat_lt at n) (Some at) None) (length-set xs at y)
    ∙ found

-- a line that was found has a set
set_within : {V P : Type 0} (array : ArrayView V P) (line : Local) (way : ℕ) →
    position (holds line) (slots_at array line) ≡ Some way → set_index array line < length array.sets
set_within {V = V} array line way found =
    elim (cases_lt (set_index array line) (length array.sets)) [
      | inl within ↦ within
      | inr past ↦
          let none : set_of array line ≡ empty_set 0 =
          get_or_past array.sets (set_index array line) (empty_set 0) past in
          let nowhere : None ≡ Some way = ap (λ (s : SetView V). position (holds line) s.slots) (sym none) ∙ found in
          cc
    ]

-- a line that was found is still there once its value was changed
pub written_there : {V P : Type 0} (array : ArrayView V P) (line : Local) (way : ℕ) (value : V) →
    position (holds line) (slots_at array line) ≡ Some way →
    position (holds line) (slots_at (with_slots array line (after_write (slots_at array line) line value)) line)
    ≡ Some way
written_there {V = V} array line way value found =
    let slot : Slot V = record { line = line; value = value } in
    let left : SetView V = record (set_of array line) { slots = after_write (slots_at array line) line value } in
    let at = set_index array line in
    let there : set_of (with_slots array line (after_write (slots_at array line) line value)) line ≡ left =
    ap (λ n. get_or (set array.sets at left) (line.0 % n) (empty_set 0)) (length-set array.sets at left)
    ∙ get_or-set_same array.sets at left (empty_set 0) (set_within array line way found) in
    ap (λ (s : SetView V). position (holds line) s.slots) there
    ∙ position-put (holds line) (slots_at array line) way slot (eq-eqb line.0 line.0 refl) found

-- lines of which one is held and the other isn't are two
pub apart_by_held : {V P : Type 0} (array : ArrayView V P) (line other : Local) → held_at array line ≡ None →
    IsSome (held_at array other) → line.0 ≢ other.0
apart_by_held array line other absent held same =
    let named : line ≡ other = ap (λ n. record { 0 = n }) same in
    let none : is_some (held_at array other) ≡ false = ap is_some (ap (held_at array) (sym named) ∙ absent) in
    cc

-- once a line of its set has left, a line that isn't held has a way
pub stands_after : {V P : Type 0} (array : ArrayView V P) (line victim : Local) (test : V → Bool) → IsArray array →
    held_at array line ≡ None → IsSomeAnd (held_at array victim) (λ value. test value ≡ true) →
    ShareSet array line victim →
    (held_at (with_slots array victim (after_remove (slots_at array victim) victim)) line ≡ None)
    × HasWay (with_slots array victim (after_remove (slots_at array victim) victim)) line
stands_after array line victim test sound absent goes shares =
    let held : IsSome (held_at array victim) = some test (held_at array victim) goes in (
      removed_other array victim sound line (apart_by_held array line victim absent held) ∙ absent,
      removed_way array victim sound line (sym shares) held,
    )
  where
    some : {V : Type 0} (test : V → Bool) (o : Option V) → IsSomeAnd o (λ value. test value ≡ true) → IsSome o
    some test None h = absurd h
    some test (Some value) h = refl

-- the line that a set evicts is one of that set which may go
pub victim_goes : {V P : Type 0} (array : ArrayView V P) (line : Local) (test : V → Bool) (moves : Bool)
    (prefers : List Event → Local → Local → Type 0) (victim : Option Local) →
    MatchOption victim (NoneMayGo test array line) (IsVictim test moves prefers array line) →
    IfSome victim (λ other. IsSomeAnd (held_at array other) (λ value. test value ≡ true))
victim_goes array line test moves prefers None is = tt
victim_goes array line test moves prefers (Some other) is = is.may_go

pub victim_shares : {V P : Type 0} (array : ArrayView V P) (line : Local) (test : V → Bool) (moves : Bool)
    (prefers : List Event → Local → Local → Type 0) (victim : Option Local) →
    MatchOption victim (NoneMayGo test array line) (IsVictim test moves prefers array line) →
    IfSome victim (λ other. ShareSet array line other)
victim_shares array line test moves prefers None is = tt
victim_shares array line test moves prefers (Some other) is = is.same_set
