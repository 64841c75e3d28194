-- Lists: counts of elements, what a longer list still has, and lists that ascend.
use Rattle.std.proofs.Common.{◌≡◌, ℕ, zero, suc, ◌+◌, ◌<◌, ◌≤◌, Bool, true, false, List, [], ◌∷◌, ◌++◌, length, get_or}
use Rattle.std.proofs.Common.{Some, refl, arith}
use Rattle.std.specs.Prelude.{if◌then◌else◌, nat_lt, ◌==◌, count_by, slice_get, All}
use Rattle.std.proofs.lemmas.Bool.Decides.{nat_tests}
use Rattle.std.proofs.lemmas.List.{get_or_append_left, get_or-append-add, get_or_default, length-append}
use Rattle.std.proofs.lemmas.List.Elements.{All-tail}
use Rattle.std.proofs.lemmas.List.Sums.{get_or-le-sum_by, sum_by-append, sum_by-cons, sum_by-le-sum_by}
use Rattle.address_map.specs.Words.{IsAscendingBy}
use Rattle.mshr_file.specs.Miss.{count_of}
use Rattle.mshr_file.specs.declared.registers.Register.{Register}
use Rattle.target_list.specs.declared.target.Target.{Target}

abbrev pub one_if : Bool → ℕ
one_if b = if b then 1 else 0

pub one : (b : Bool) → b ≡ true → one_if b ≡ 1
one b passes = rw passes refl

pub none : (b : Bool) → b ≡ false → one_if b ≡ 0
none b fails = rw fails refl

pub at_most_one : (b : Bool) → one_if b ≤ 1
at_most_one true = omega arith
at_most_one false = omega arith

-- The numbers below the next one are those below this one, and this one.
pub below_next : (seq accepted : ℕ)
    → one_if (nat_lt seq accepted) + one_if (accepted == seq) ≡ one_if (nat_lt seq (accepted + 1))
below_next seq accepted = grind (arith, nat_tests)

-- A number that is counted below a bound is below it.
pub is_below : (seq accepted : ℕ) → 1 ≤ one_if (nat_lt seq accepted) → seq < accepted
is_below seq accepted counted = grind (arith, nat_tests)

module _ {X : Type 0} where
  pub count_by-cons : (p : X → Bool) (x : X) (xs : List X) → count_by p (x ∷ xs) ≡ one_if (p x) + count_by p xs
  count_by-cons p x xs = sum_by-cons (λ y. one_if (p y)) x xs

  pub count_by-append : (p : X → Bool) (xs ys : List X) → count_by p (xs ++ ys) ≡ count_by p xs + count_by p ys
  count_by-append p xs ys = sum_by-append (λ y. one_if (p y)) xs ys

  -- Where no element passes, none is counted.
  pub count_by-none : (p : X → Bool) (xs : List X) → All (λ x. p x ≡ false) xs → count_by p xs ≡ 0
  count_by-none p [] fails = refl
  count_by-none p (x ∷ xs) fails =
      let more = count_by-cons p x xs in
      let first = none (p x) (fails 0 x (omega arith)) in
      let later = count_by-none p xs (All-tail (λ y. p y ≡ false) x xs fails) in
      omega (arith, more, first, later)

  -- An element that passes is counted.
  pub counted_at : (p : X → Bool) (xs : List X) (k : ℕ) (d : X) → k < length xs → p (get_or xs k d) ≡ true
      → 1 ≤ count_by p xs
  counted_at p xs k d inside passes =
      let here = get_or-le-sum_by (λ y. one_if (p y)) xs k d inside in
      let counted = one (p (get_or xs k d)) passes in
      omega (arith, here, counted)

  -- All elements are counted by a test that all pass.
  pub count_by-all : (xs : List X) → count_by (λ x. true) xs ≡ length xs
  count_by-all [] = refl
  count_by-all (x ∷ xs) =
      let more = count_by-cons (λ y. true) x xs in
      let later = count_by-all xs in
      omega (arith, more, later)

  -- What a list has at a place it still has with more elements after.
  pub slice_get-kept : (xs ys : List X) (k : ℕ) (x : X) → slice_get xs k ≡ Some x → slice_get (xs ++ ys) k ≡ Some x
  slice_get-kept [] ys k x h = cc
  slice_get-kept (z ∷ zs) ys zero x h = h
  slice_get-kept (z ∷ zs) ys (suc k) x h = slice_get-kept zs ys k x h

  pub slice_get-next : (xs ys : List X) (y : X) → slice_get (xs ++ y ∷ ys) (length xs) ≡ Some y
  slice_get-next [] ys y = refl
  slice_get-next (z ∷ zs) ys y = slice_get-next zs ys y

  -- What holds of all elements holds of those of the second part.
  pub All-right : (P : X → Type 0) (xs ys : List X) → All P (xs ++ ys) → All P ys
  All-right P xs ys all k d inside =
      let long = length-append xs ys in
      let here = get_or-append-add xs ys k d in
      rw here at (all (length xs + k) d (omega (arith, inside, long)))

  -- Of a list that ascends the first part ascends, and its elements are below those of the second part.
  pub ascending-left : (n : X → ℕ) (xs ys : List X) → IsAscendingBy n (xs ++ ys) → IsAscendingBy n xs
  ascending-left n xs ys ascending i j d before inside =
      let long = length-append xs ys in
      let at_i = get_or_append_left xs ys d i (omega (arith, before, inside)) in
      let at_j = get_or_append_left xs ys d j inside in
      let rises = ascending i j d before (omega (arith, inside, long)) in
      rw (at_i, at_j) at rises

  pub ascending-apart : (n : X → ℕ) (xs ys : List X) → IsAscendingBy n (xs ++ ys)
      → All (λ x. All (λ y. n x < n y) ys) xs
  ascending-apart n xs ys ascending i d inside j e behind =
      let long = length-append xs ys in
      let at_i = get_or_append_left xs ys d i inside in
      let at_j = get_or-append-add xs ys j d in
      let same = get_or_default ys j d e behind in
      let rises = ascending i (length xs + j) d (omega (arith, inside)) (omega (arith, behind, long)) in
      rw (at_i, at_j, same) at rises

-- A test that passes more counts more.
one_if-more : (b c : Bool) → (b ≡ true → c ≡ true) → one_if b ≤ one_if c
one_if-more true c more = let counted = one c (more refl) in omega (arith, counted)
one_if-more false c more = omega arith

pub count_by-more : {X : Type 0} (p q : X → Bool) (xs : List X) → ((x : X) → p x ≡ true → q x ≡ true)
    → count_by p xs ≤ count_by q xs
count_by-more p q xs more =
    sum_by-le-sum_by (λ x. one_if (p x)) (λ x. one_if (q x)) xs (λ x. one_if-more (p x) (q x) (more x))

pub count_of-more : (p q : Target → Bool) (misses : List Register)
    → ((target : Target) → p target ≡ true → q target ≡ true)
    → count_of p misses ≤ count_of q misses
count_of-more p q misses more =
    sum_by-le-sum_by (λ register. count_by p register.targets) (λ register. count_by q register.targets) misses
    (λ register. count_by-more p q register.targets more)
