-- Cores that are counted: of each number how many there are, and whether they are as many as the machine has.
use Rattle.std.proofs.Common.{◌≡◌, ℕ, zero, suc, ◌+◌, ◌<◌, ◌≤◌, ◌∙◌, inl, inr, true, false, List, [], ◌∷◌, ◌++◌, length}
use Rattle.std.proofs.Common.{refl, sym, ap, cond, arith, sum_by, filter, take, get_or, set, subst, eq-eqb}
use Rattle.std.specs.Prelude.{◌==◌}
use Rattle.std.specs.List.{AllByRecursion, range_with_len}
use Rattle.std.proofs.lemmas.Bool.{cases_eq, ne_eqb}
use Rattle.std.proofs.lemmas.List.{get_or-set_other, get_or-set_same, length-map, take_more}
use Rattle.address_map.specs.declared.config.Config.{Config}
use Rattle.core_thread_system.specs.Core.{CoreView}
use Rattle.drain.specs.Whole.{AreConfigured, AreOnceBelow, AreWhole, numbers_of}
use Rattle.std.proofs.lemmas.List.Sums.{sum_by-cons, sum_by-append}
use Rattle.receipt_ledger.specs.History.{times}
use Rattle.drain.proofs.Sums.{by-number, below-more}

-- how often a number occurs, as a sum
times-sum : (n : ℕ) (xs : List ℕ) → times n xs ≡ sum_by (λ x. 1) (filter (λ x. x == n) xs)
times-sum n [] = refl
times-sum n (x ∷ xs) =
    elim (x == n) as (λ b. cond b 1 0 + times n xs ≡ sum_by (λ y. 1)
    (cond b (x ∷ filter (λ y. y == n) xs) (filter (λ y. y == n) xs))) [
      | true ↦ ap (λ k. 1 + k) (times-sum n xs) ∙ sym (sum_by-cons (λ y. 1) x (filter (λ y. y == n) xs))
      | false ↦ ap (λ k. 0 + k) (times-sum n xs) ∙ (omega arith)
    ]

sum-ones : (xs : List ℕ) → sum_by (λ x. 1) xs ≡ length xs
sum-ones [] = refl
sum-ones (x ∷ xs) =
    let rest = sum-ones xs in
    let whole = sum_by-cons (λ (y : ℕ). 1) x xs in
    omega (arith, rest, whole)

-- Where each number below the limit occurs once, there are as many such numbers as the limit.
ones-below : (limit : ℕ) (xs : List ℕ) → ((n : ℕ) → n < limit → times n xs ≡ 1)
    → sum_by (λ n. sum_by (λ x. 1) (filter (λ x. x == n) xs)) (range_with_len 0 limit) ≡ limit
ones-below zero xs once = refl
ones-below (suc limit) xs once =
    let g : ℕ → ℕ = λ n. sum_by (λ x. 1) (filter (λ x. x == n) xs) in
    let rest = ones-below limit xs (λ n below. once n (omega (arith, below))) in
    let last = sym (times-sum limit xs) ∙ once limit (omega arith) in
    let next : suc limit ≡ limit + 1 = omega arith in
    let whole = ap (λ (n : ℕ). sum_by g (range_with_len 0 n)) next ∙ ap (sum_by g) (below-more limit)
    ∙ sum_by-append g (range_with_len 0 limit) (limit ∷ []) in
    let one = sum_by-cons g limit [] in
    omega (arith, rest, last, whole, one)

-- Where all numbers are below the limit, and each below it occurs once, they are as many as the limit.
pub as-many : (limit : ℕ) (xs : List ℕ) → AllByRecursion (λ x. x < limit) xs → ((n : ℕ) → n < limit → times n xs ≡ 1)
    → length xs ≡ limit
as-many limit xs all once =
    sym (sum-ones xs) ∙ sym (by-number (λ x. x) (λ x. 1) limit xs all) ∙ ones-below limit xs once

-- ---- cores that are counted one after the other

one_at : ℕ → ℕ → ℕ
one_at n x = cond (x == n) 1 0

times-push : (n : ℕ) (cores : List CoreView) (v : CoreView)
    → times n (numbers_of (cores ++ v ∷ [])) ≡ times n (numbers_of cores) + one_at n v.core.0
unfolding one_at
times-push n [] v = omega arith
times-push n (u ∷ cores) v =
    let rest = times-push n cores v in
    omega (arith, rest)

times-more : (n : ℕ) (cores : List CoreView) (i : ℕ) (v : CoreView) → i < length cores → v ≡ get_or cores i v
    → times n (numbers_of (take (i + 1) cores)) ≡ times n (numbers_of (take i cores)) + one_at n v.core.0
times-more n cores i v within here =
    ap (λ (us : List CoreView). times n (numbers_of us)) (take_more cores i v within)
    ∙ ap (λ (u : CoreView). times n (numbers_of (take i cores ++ u ∷ []))) (sym here)
    ∙ times-push n (take i cores) v

-- The counts with that of one more core.
pub counted-more : (cores : List CoreView) (counts : List ℕ) (i n : ℕ) (v : CoreView) → i < length cores
    → v ≡ get_or cores i v → n ≡ v.core.0 → length counts ≡ 64
    → ((core : ℕ) → core < 64 → get_or counts core 0 ≡ times core (numbers_of (take i cores)))
    → (core : ℕ) → core < 64
    → get_or (set counts n (get_or counts n 0 + 1)) core 0 ≡ times core (numbers_of (take (i + 1) cores))
unfolding one_at
counted-more cores counts i n v within here number long counted core few =
    let so_far = counted core few in
    let more = times-more core cores i v within here in
    elim (cases_eq core n) [
      | inl same ↦
          let inside : core < length counts = omega (arith, long, few) in
          let now = get_or-set_same counts core (get_or counts core 0 + 1) 0 inside in
          let one : one_at core v.core.0 ≡ 1 = ap (λ b. cond b 1 0) (eq-eqb v.core.0 core (sym number ∙ sym same)) in
          subst (λ (k : ℕ). get_or (set counts k (get_or counts k 0 + 1)) core 0 ≡ times core
          (numbers_of (take (i + 1) cores)))
          same (omega (arith, so_far, more, now, one))
      | inr other ↦
          let now = get_or-set_other counts n core (get_or counts n 0 + 1) 0 other in
          let none : one_at core v.core.0 ≡ 0 = ap (λ b. cond b 1 0)
          (ne_eqb v.core.0 core (λ is. other (sym is ∙ sym number))) in
          omega (arith, so_far, more, now, none)
    ]

one-most : (n x : ℕ) → one_at n x ≤ 1
unfolding one_at
one-most n x = elim (x == n) as (λ b. cond b 1 0 ≤ 1) [ true ↦ omega arith | false ↦ omega arith ]

-- No number occurs more often than there are cores.
pub times-most : (n : ℕ) (cores : List CoreView) → times n (numbers_of cores) ≤ length cores
unfolding one_at
times-most n [] = omega arith
times-most n (v ∷ cores) =
    let rest = times-most n cores in
    let one = one-most n v.core.0 in
    omega (arith, rest, one)

all-push : {X : Type 0} (P : X → Type 0) (xs : List X) (x : X) → AllByRecursion P xs → P x
    → AllByRecursion P (xs ++ x ∷ [])
all-push P [] x all here = (here, tt)
all-push P (y ∷ xs) x all here = (all.0, all-push P xs x all.1 here)

pub all-more : {X : Type 0} (P : X → Type 0) (xs : List X) (i : ℕ) (x : X) → i < length xs → x ≡ get_or xs i x
    → AllByRecursion P (take i xs) → P x → AllByRecursion P (take (i + 1) xs)
all-more {X} P xs i x within here all one =
    subst (AllByRecursion P)
    (ap (λ (y : X). take i xs ++ y ∷ []) here ∙ sym (take_more xs i x within)) (all-push P (take i xs) x all one)

-- ---- cores that are all there

numbers-below : (limit : ℕ) (cores : List CoreView) → AllByRecursion (λ (v : CoreView). v.core.0 < limit) cores
    → AllByRecursion (λ x. x < limit) (numbers_of cores)
numbers-below limit [] all = tt
numbers-below limit (v ∷ cores) all = (all.0, numbers-below limit cores all.1)

pub whole : (c : Config) (cores : List CoreView) → AreConfigured c cores → AreOnceBelow c.cores cores
    → AreWhole c cores
whole c cores known once = record {
  once = once;
  all =
      sym (length-map cores (λ (v : CoreView). v.core.0))
      ∙ as-many c.cores (numbers_of cores) (numbers-below c.cores cores known) once;
}
