-- The first element of a list that passes a test: where it is, and the list without it or with it at the end.
use Rattle.std.proofs.Common.{◌≡◌, ℕ, ◌+◌, ◌<◌, ◌≤◌, Bool, true, false, cond, not, List, [], ◌∷◌, ◌++◌, length, map}
use Rattle.std.proofs.Common.{get_or, set, zero, suc, refl, ap, sym, ◌∙◌, arith, Some, None, option_to_list, find}
use Rattle.std.proofs.Common.{position, remove, drop, nat_lt, Option, subst}
use Rattle.std.specs.List.{position_or_len, refill, swap}
use Rattle.std.specs.Set.{remove_key}
use Rattle.std.proofs.lemmas.Bool.{ltb-true, ltb-false}
use Rattle.std.proofs.lemmas.List.{map-append, take_at, length-set}
use Rattle.std.proofs.lemmas.List.Edits.{swap_is}
use Rattle.std.proofs.lemmas.List.Folds.{find_at}
use Rattle.std.proofs.lemmas.Option.{slice_get-get_or, slice_get_past}
use Rattle.cache_array.specs.History.{moved_to_end}

-- to remove the element at the first place that passes is to remove the first that passes
remove-first : {X : Type 0} (p : X → Bool) (xs : List X) → position_or_len p xs < length xs →
    remove xs (position_or_len p xs) ≡ remove_key p xs
remove-first p [] within = refl
remove-first p (x ∷ xs) within = by (p x) (position_or_len p xs) within (remove-first p xs)
  where
    by : (b : Bool) (n : ℕ) → cond (not b) (1 + n) 0 < length (x ∷ xs) →
        (n < length xs → remove xs n ≡ remove_key p xs) →
        remove (x ∷ xs) (cond (not b) (1 + n) 0) ≡ cond b xs (x ∷ remove_key p xs)
    by true n lt rest = refl
    by false n lt rest = let next : 1 + n ≡ suc n = omega arith in rw next (ap (λ ys. x ∷ ys) (rest (omega arith)))

-- where nothing passes, nothing goes
remove_key-none : {X : Type 0} (p : X → Bool) (xs : List X) → length xs ≤ position_or_len p xs → remove_key p xs ≡ xs
remove_key-none p [] past = refl
remove_key-none p (x ∷ xs) past = by (p x) (position_or_len p xs) past (remove_key-none p xs)
  where
    by : (b : Bool) (n : ℕ) → length (x ∷ xs) ≤ cond (not b) (1 + n) 0 →
        (length xs ≤ n → remove_key p xs ≡ xs) →
        cond b xs (x ∷ remove_key p xs) ≡ x ∷ xs
    by true n le rest = absurd (omega arith)
    by false n le rest = ap (λ ys. x ∷ ys) (rest (omega arith))

-- the result of `position`, in terms of its test
place_is : (b : Bool) (n i : ℕ) → cond b (Some n) None ≡ Some i → (b ≡ true) × (n ≡ i)
place_is true n i e = (refl, cc)
place_is false n i e = cc

no_place : (b : Bool) (n : ℕ) → cond b (Some n) None ≡ None → b ≡ false
no_place true n e = cc
no_place false n e = refl

-- at the place that `position` found, the element goes, and `find` finds it
pub removed_at : {X : Type 0} (p : X → Bool) (xs : List X) (i : ℕ) → position p xs ≡ Some i →
    remove xs i ≡ remove_key p xs
removed_at p xs i e =
    let at = place_is _ _ _ e in
    rw (← at.1) (remove-first p xs (ltb-true _ _ at.0))

pub found_at : {X : Type 0} (p : X → Bool) (xs : List X) (i : ℕ) (d : X) → position p xs ≡ Some i →
    find p xs ≡ Some (get_or xs i d)
found_at p xs i d e =
    let at = place_is _ _ _ e in
    rw (← at.1) (find_at p xs ∙ slice_get-get_or xs _ d (ltb-true _ _ at.0))

pub first_at : {X : Type 0} (p : X → Bool) (xs : List X) (i : ℕ) → position p xs ≡ Some i → position_or_len p xs ≡ i
first_at p xs i e = (place_is _ _ _ e).1

-- another element that passes, put there, is found there
position-set_first : {X : Type 0} (p : X → Bool) (xs : List X) (y : X) → p y ≡ true →
    position_or_len p (set xs (position_or_len p xs) y) ≡ position_or_len p xs
position-set_first p [] y passes = refl
position-set_first p (x ∷ xs) y passes = by (p x) (position_or_len p xs) refl (position-set_first p xs y passes)
  where
    by : (b : Bool) (n : ℕ) → p x ≡ b → position_or_len p (set xs n y) ≡ n →
        position_or_len p (set (x ∷ xs) (cond (not b) (1 + n) 0) y) ≡ cond (not b) (1 + n) 0
    by true n is rest = rw passes refl
    by false n is rest = let next : 1 + n ≡ suc n = omega arith in rw (next, is, rest) next

pub position-written : {X : Type 0} (p : X → Bool) (xs : List X) (y : X) → p y ≡ true →
    position p (set xs (position_or_len p xs) y) ≡ position p xs
position-written p xs y passes =
    let at = position_or_len p xs in
    ap (λ n. cond (nat_lt n (length (set xs at y))) (Some n) None) (position-set_first p xs y passes)
    ∙ ap (λ n. cond (nat_lt at n) (Some at) None) (length-set xs at y)

-- where `position` found none, nothing goes, and `find` finds nothing
pub removed_none : {X : Type 0} (p : X → Bool) (xs : List X) → position p xs ≡ None → remove_key p xs ≡ xs
removed_none p xs e = remove_key-none p xs (ltb-false _ _ (no_place _ _ e))

pub found_none : {X : Type 0} (p : X → Bool) (xs : List X) → position p xs ≡ None → find p xs ≡ None
found_none p xs e = find_at p xs ∙ slice_get_past xs _ (ltb-false _ _ (no_place _ _ e))

-- the place that `position` found is in the list
pub place_within : {X : Type 0} (p : X → Bool) (xs : List X) (i : ℕ) → position p xs ≡ Some i → i < length xs
place_within p xs i e =
    let at = place_is _ _ _ e in
    rw (← at.1) (ltb-true _ _ at.0)

-- a list of other things, in the same order
pub remove_key-map : {X Y : Type 0} (f : X → Y) (p : Y → Bool) (xs : List X) →
    map f (remove_key (λ x. p (f x)) xs) ≡ remove_key p (map f xs)
remove_key-map f p [] = refl
remove_key-map f p (x ∷ xs) = by (p (f x)) (remove_key-map f p xs)
  where
    by : (b : Bool) → map f (remove_key (λ x. p (f x)) xs) ≡ remove_key p (map f xs) →
        map f (cond b xs (x ∷ remove_key (λ x. p (f x)) xs)) ≡ cond b (map f xs) (f x ∷ remove_key p (map f xs))
    by true rest = refl
    by false rest = ap (λ ys. f x ∷ ys) rest

found-map : {X Y : Type 0} (f : X → Y) (p : Y → Bool) (xs : List X) →
    map f (option_to_list (find (λ x. p (f x)) xs)) ≡ option_to_list (find p (map f xs))
found-map f p [] = refl
found-map f p (x ∷ xs) = by (p (f x)) (found-map f p xs)
  where
    by : (b : Bool) → map f (option_to_list (find (λ x. p (f x)) xs)) ≡ option_to_list (find p (map f xs)) →
        map f (option_to_list (cond b (Some x) (find (λ x. p (f x)) xs)))
        ≡ option_to_list (cond b (Some (f x)) (find p (map f xs)))
    by true rest = refl
    by false rest = rest

pub moved_to_end-map : {X Y : Type 0} (f : X → Y) (p : Y → Bool) (xs : List X) →
    map f (moved_to_end (λ x. p (f x)) xs) ≡ moved_to_end p (map f xs)
moved_to_end-map f p xs =
    map-append f (remove_key (λ x. p (f x)) xs) (option_to_list (find (λ x. p (f x)) xs))
    ∙ rw (remove_key-map f p xs, found-map f p xs) refl

-- those on what `position` found, for tactics
pub ruleset removals = (removed_at, found_at, removed_none, found_none, place_within)

-- the element at the place that `position` found goes to the end
pub moved_at : {X : Type 0} (p : X → Bool) (xs ys : List X) (i : ℕ) → position p xs ≡ Some i →
    ((d : X) → ys ≡ remove xs i ++ get_or xs i d ∷ []) → moved_to_end p xs ≡ ys
moved_at p [] ys i e moved = cc
moved_at p (x ∷ xs) ys i e moved =
    rw (← removed_at p (x ∷ xs) i e, found_at p (x ∷ xs) i x e) (sym (moved x))

-- the last element is at the end
pub last_stays : {X : Type 0} (xs : List X) (i : ℕ) (d : X) → i + 1 ≡ length xs → xs ≡ remove xs i ++ get_or xs i d ∷ []
last_stays [] i d one = absurd (omega (arith, one))
last_stays (x ∷ []) zero d one = refl
last_stays (x ∷ z ∷ xs) zero d one = absurd (omega (arith, one))
last_stays (x ∷ xs) (suc i) d one = ap (λ ys. x ∷ ys) (last_stays xs i d (omega (arith, one)))

-- an element with one after it changes places with that one
passed : {X : Type 0} (xs : List X) (i : ℕ) (d y : X) → length xs ≡ suc (suc i) →
    set (set xs i (get_or xs (suc i) d)) (suc i) y ≡ remove xs i ++ y ∷ []
passed [] i d y two = absurd (omega (arith, two))
passed (x ∷ []) i d y two = absurd (omega (arith, two))
passed (x ∷ z ∷ []) zero d y two = refl
passed (x ∷ z ∷ w ∷ xs) zero d y two = absurd (omega (arith, two))
passed (x ∷ z ∷ xs) (suc i) d y two = ap (λ ys. x ∷ ys) (passed (z ∷ xs) i d y (omega (arith, two)))

pub swapped_last : {X : Type 0} (xs : List X) (i : ℕ) (d : X) → i + 2 ≡ length xs →
    swap xs i (i + 1) ≡ remove xs i ++ get_or xs i d ∷ []
swapped_last xs i d two =
    sym (swap_is xs i (i + 1) d (omega (arith, two)) (omega (arith, two)))
    ∙ (let next : i + 1 ≡ suc i = omega arith in rw next (passed xs i d (get_or xs i d) (omega (arith, two))))

-- the same of a list that is written back through a slice of it
pub moved_within : {X : Type 0} (p : X → Bool) (now items old new : List X) (i : ℕ) → items ≡ now → old ≡ items →
    length new ≡ length old → position p now ≡ Some i → ((d : X) → new ≡ remove old i ++ get_or old i d ∷ []) →
    refill (length items) items new ≡ moved_to_end p now
moved_within p now items old new i e f long at moved =
    let same : old ≡ now = f ∙ e in
    let all : length new ≡ length items = long ∙ ap length f in
    take_at new (drop (length new) items) (length items) all
    ∙ sym (moved_at p now new i at (λ d. moved d ∙ ap (λ xs. remove xs i ++ get_or xs i d ∷ []) same))

-- lists with one more element are the same only with the same element
snoc_some : {X : Type 0} (xs : List X) (x : X) → [] ≡ xs ++ x ∷ [] → ⊥
snoc_some [] x e = cc
snoc_some (z ∷ xs) x e = cc

snoc_same : {X : Type 0} (xs ys : List X) (x y : X) → xs ++ x ∷ [] ≡ ys ++ y ∷ [] → (xs ≡ ys) × (x ≡ y)
snoc_same [] [] x y e = (refl, cc)
snoc_same [] (b ∷ ys) x y e = absurd (snoc_some ys y cc)
snoc_same (a ∷ xs) [] x y e = absurd (snoc_some xs x cc)
snoc_same (a ∷ xs) (b ∷ ys) x y e =
    let rest = snoc_same xs ys x y cc in
    (cc (e, rest.0), rest.1)

-- once the element at the place that `position` found went to the end, it is the last, and the others come before it
pub popped : {X : Type 0} (p : X → Bool) (now items old new rest : List X) (last : X) (i : ℕ) → items ≡ now →
    old ≡ items → length new ≡ length old → position p now ≡ Some i →
    ((d : X) → new ≡ remove old i ++ get_or old i d ∷ []) → refill (length items) items new ≡ rest ++ last ∷ [] →
    (rest ≡ remove_key p now) × (find p now ≡ Some last)
popped {X = X} p now items old new rest last i e f long at moved there =
    let found = found_at p now i last at in
    let whole : moved_to_end p now ≡ rest ++ last ∷ [] =
    sym (moved_within p now items old new i e f long at moved) ∙ there in
    let same =
    snoc_same (remove_key p now) rest (get_or now i last) last
    (subst (λ (o : Option X). remove_key p now ++ option_to_list o ≡ rest ++ last ∷ []) found whole) in
    (sym same.0, found ∙ ap Some same.1)
