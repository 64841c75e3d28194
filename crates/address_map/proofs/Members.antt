-- The cores of a set in ascending order, as its lowest core is taken out again and again, and how many they are.
use Rattle.std.proofs.Common.{◌≡◌, ℕ, ◌+◌, ◌*◌, ◌/◌, ◌%◌, ◌^◌, ◌<◌, ◌≤◌, ◌==◌, Bool, true, false, if◌then◌else◌, List, []}
use Rattle.std.proofs.Common.{◌∷◌, length, bit_xor, count_ones, zero, suc, add-one, refl, ap, sym, ◌∙◌, arith, inl, inr, filter}
use Rattle.std.specs.List.{range_with_len}
use Rattle.std.specs.Int.{bit_at, trailing_zeros, w64}
use Rattle.std.specs.Int.Count.{ones-le, ones_step}
use Rattle.std.proofs.Math.Nat.{pow-suc}
use Rattle.std.proofs.lemmas.Bool.{cases_eq}
use Rattle.std.proofs.lemmas.List.FromFn.{length-range_with_len}
use Rattle.std.proofs.lemmas.List.Sums.{length-filter, count_by-le-length}
use Rattle.std.proofs.lemmas.Nat.Bits.{bit_at-trailing_zeros, bit_at_lowest, bit_at-suc, bit_at-lt}
use Rattle.address_map.specs.CoreSet.{has, without, members, count_of}
use Rattle.address_map.proofs.CoreSets.{has-without_same, has-without_other, has-zero, has-below, only-shifted}
use Rattle.address_map.proofs.CoreSets.{without-cleared}

branch : (b c : Bool) (a : ℕ) (xs ys : List ℕ) → b ≡ c → xs ≡ ys
    → (if b then a ∷ xs else xs) ≡ (if c then a ∷ ys else ys)
branch b c a xs ys e f = cc

-- sets with the same cores from a number on have the same list of them
filter-same : (n a s t : ℕ) → ((i : ℕ) → a ≤ i → has s i ≡ has t i)
    → filter (has s) (range_with_len a n) ≡ filter (has t) (range_with_len a n)
filter-same zero a s t same = refl
filter-same (suc n) a s t same =
    branch _ _ a _ _ (same a (omega arith)) (filter-same n (a + 1) s t (λ i from. same i (omega arith)))

-- the lowest core of a set comes first, and the others are those of the set without it
filter-lowest : (n a s t : ℕ) → a ≤ t → t < a + n → has s t ≡ true → ((i : ℕ) → i < t → has s i ≡ false)
    → filter (has s) (range_with_len a n) ≡ t ∷ filter (has (without s t)) (range_with_len a n)
filter-lowest zero a s t from within there lowest = absurd (omega arith)
filter-lowest (suc n) a s t from within there lowest =
    elim (cases_eq a t) [
      | inl here ↦
          let first : has s a ≡ true = rw here there in
          let gone : has (without s t) a ≡ false = rw here (has-without_same s t) in
          let later : filter (has s) (range_with_len (a + 1) n)
          ≡ filter (has (without s t)) (range_with_len (a + 1) n) =
          filter-same n (a + 1) s (without s t) (λ i behind. sym (has-without_other s t i (omega arith))) in
          chosen _ _ a t _ _ here first gone later
      | inr apart ↦
          let before : a < t = omega arith in
          let skipped : has s a ≡ false = lowest a before in
          let skipped_too : has (without s t) a ≡ false = has-without_other s t a apart ∙ skipped in
          passed _ _ a t _ _ skipped skipped_too (filter-lowest n (a + 1) s t (omega arith) (omega arith) there lowest)
    ]
  where
    chosen : (b c : Bool) (a t : ℕ) (xs ys : List ℕ) → a ≡ t → b ≡ true → c ≡ false → xs ≡ ys
        → (if b then a ∷ xs else xs) ≡ t ∷ (if c then a ∷ ys else ys)
    chosen b c a t xs ys e f g h = rw (f, g) cc

    passed : (b c : Bool) (a t : ℕ) (xs ys : List ℕ) → b ≡ false → c ≡ false → xs ≡ t ∷ ys
        → (if b then a ∷ xs else xs) ≡ t ∷ (if c then a ∷ ys else ys)
    passed b c a t xs ys f g h = rw (f, g) h

filter-none : (n a : ℕ) → filter (has 0) (range_with_len a n) ≡ []
filter-none zero a = refl
filter-none (suc n) a = rw has-zero (filter-none n (a + 1))

-- the empty set has no core
pub members-zero : members 0 ≡ []
unfolding members
members-zero = filter-none 64 0

-- the place of the lowest 1 is the first core
pub members-lowest : (set : ℕ) → 0 < set → set < 18446744073709551616
    → members set ≡ trailing_zeros w64 set ∷ members (without set (trailing_zeros w64 set))
unfolding members has
members-lowest set some fits =
    let bits = bit_at-trailing_zeros w64 set some fits in
    filter-lowest 64 0 set (trailing_zeros w64 set) (omega arith) (bits.0) (ap (λ b. b == 1) bits.1)
    (λ i below. ap (λ b. b == 1) (bits.2 i below))

pub lowest-there : (set : ℕ) → 0 < set → set < 18446744073709551616 → has set (trailing_zeros w64 set) ≡ true
unfolding has
lowest-there set some fits = ap (λ b. b == 1) (bit_at-trailing_zeros w64 set some fits).1

-- the lowest core is taken out by one exclusive or
pub lowest-cleared : (set : ℕ) → 0 < set → set < 18446744073709551616
    → bit_xor set (1 * 2 ^ trailing_zeros w64 set % 18446744073709551616) ≡ without set (trailing_zeros w64 set)
lowest-cleared set some fits =
    let there = lowest-there set some fits in
    let below = has-below set (trailing_zeros w64 set) fits there in
    rw (only-shifted _ below) (without-cleared set _ there below)

-- the same as a set of lemmas, for tactics
pub ruleset members_none = members-zero

-- ---- how many

-- Core 0 is counted by the lowest bit, and the others in the half.
halved : (n a set : ℕ)
    → length (filter (has set) (range_with_len (a + 1) n)) ≡ length (filter (has (set / 2)) (range_with_len a n))
unfolding has
halved zero a set = refl
halved (suc n) a set = counted _ _ _ _ _ _ (shifted set a) (halved n (a + 1) set)
  where
    shifted : (set a : ℕ) → has set (a + 1) ≡ has (set / 2) a
    shifted set a = rw (add-one, bit_at-suc set a) refl

    counted : (b c : Bool) (x y : ℕ) (xs ys : List ℕ) → b ≡ c → length xs ≡ length ys
        → length (if b then x ∷ xs else xs) ≡ length (if c then y ∷ ys else ys)
    counted true true x y xs ys e f = ap suc f
    counted false false x y xs ys e f = f
    counted true false x y xs ys e f = absurd (cc e)
    counted false true x y xs ys e f = absurd (cc e)

-- The ones of a number below 2 ^ n are the cores below n that the set has.
ones-from : (n set : ℕ) → set < 2 ^ n → count_ones set ≡ length (filter (has set) (range_with_len 0 n))
unfolding has
ones-from zero set small = omega (arith, ones-le 0 set small)
ones-from (suc n) set small =
    let half : set / 2 < 2 ^ n = omega (arith, pow-suc 2 n) in
    let rest : count_ones (set / 2) ≡ length (filter (has set) (range_with_len 1 n)) =
    ones-from n (set / 2) half ∙ sym (halved n 0 set) in
    ones_step set ∙ first set _ (bit_at-lt set 0) (sym (bit_at_lowest set)) rest
  where
    digit : (d : ℕ) (xs : List ℕ) → d < 2 → d + length xs ≡ length (if d == 1 then 0 ∷ xs else xs)
    digit zero xs small = omega arith
    digit (suc zero) xs small = omega arith
    digit (suc (suc d)) xs small = absurd (omega arith)

    first : (set : ℕ) (xs : List ℕ) → bit_at set 0 < 2 → set % 2 ≡ bit_at set 0 → count_ones (set / 2) ≡ length xs
        → set % 2 + count_ones (set / 2) ≡ length (if has set 0 then 0 ∷ xs else xs)
    first set xs small low rest = rw (low, rest) (digit (bit_at set 0) xs small)

pub ones-count : (set : ℕ) → set < 18446744073709551616 → count_ones set ≡ count_of set
unfolding count_of members
ones-count set fits = ones-from 64 set fits

-- A core that is taken out is one of those that were counted.
filter-taken : (n a set core : ℕ) → a ≤ core → core < a + n → has set core ≡ true
    → length (filter (has set) (range_with_len a n)) ≡ length (filter (has (without set core)) (range_with_len a n)) + 1
filter-taken zero a set core from within there = absurd (omega arith)
filter-taken (suc n) a set core from within there =
    elim (cases_eq a core) [
      | inl here ↦
          let first : has set a ≡ true = rw here there in
          let gone : has (without set core) a ≡ false = rw here (has-without_same set core) in
          let later : filter (has set) (range_with_len (a + 1) n)
          ≡ filter (has (without set core)) (range_with_len (a + 1) n) =
          filter-same n (a + 1) set (without set core) (λ i behind. sym (has-without_other set core i (omega arith))) in
          rw (first, gone, later) (sym (add-one _))
      | inr apart ↦
          let same : has set a ≡ has (without set core) a = sym (has-without_other set core a apart) in
          one_more _ _ a _ _ same (filter-taken n (a + 1) set core (omega arith) (omega arith) there)
    ]
  where
    one_more : (b c : Bool) (a : ℕ) (xs ys : List ℕ) → b ≡ c → length xs ≡ length ys + 1
        → length (if b then a ∷ xs else xs) ≡ length (if c then a ∷ ys else ys) + 1
    one_more true true a xs ys e f = omega (arith, f)
    one_more false false a xs ys e f = f
    one_more true false a xs ys e f = absurd (cc e)
    one_more false true a xs ys e f = absurd (cc e)

pub count_of-without : (set core : ℕ) → core < 64 → has set core ≡ true → count_of set ≡ count_of (without set core) + 1
unfolding count_of members
count_of-without set core below there = filter-taken 64 0 set core (omega arith) (omega arith) there

-- No set has more than 64 cores.
pub count_of-most : (set : ℕ) → count_of set ≤ 64
unfolding count_of members
count_of-most set =
    let all = length-range_with_len 0 64 in
    omega (arith, length-filter (has set) (range_with_len 0 64), count_by-le-length (has set) (range_with_len 0 64))
