-- The slot that a policy chooses may go.
use Rattle.std.proofs.Common.{◌≡◌, ℕ, ◌+◌, ◌%◌, ◌<◌, Bool, true, false, cond, not, List, [], ◌∷◌, length, map, filter}
use Rattle.std.proofs.Common.{count_by, get_or, zero, suc, refl, ap, ◌∙◌, arith, inl, inr, Option, Some, None}
use Rattle.std.proofs.Common.{slice_get, All, nat_lt, ◌⊎◌}
use Rattle.std.proofs.lemmas.Bool.{ltb-true, ltb-false, cases_lt}
use Rattle.address_map.specs.declared.config.PolicyKind.{PolicyKind}
use Rattle.address_map.specs.declared.config.PolicyKind.TheVariants.{Lru, Fifo, Random}
use Rattle.std.specs.List.{position_or_len, enumerate_from}
use Rattle.std.proofs.Math.Nat.{mod-eq_of_lt, mod-lt}
use Rattle.std.proofs.lemmas.List.Sums.{count_by-le-length, length-filter, prefix_len_passes, prefix_len_stops}
use Rattle.std.proofs.lemmas.Option.{slice_get-get_or, slice_get_past}
use Rattle.cache_array.specs.Policy.{allowed_slots, first_allowed, picked_by, choice_of, IsAllowed, CanPickEach}

-- the slots that may go, where the first of the list is slot n
abbrev pub slots_from : ℕ → List Bool → List ℕ
slots_from n allowed = map (λ slot. slot.0) (filter (λ slot. slot.1) (enumerate_from n allowed))

length-slots_from : (n : ℕ) (allowed : List Bool) →
    length (slots_from n allowed) ≡ length (filter (λ may_go. may_go) allowed)
length-slots_from n [] = refl
length-slots_from n (true ∷ allowed) = ap suc (length-slots_from (n + 1) allowed)
length-slots_from n (false ∷ allowed) = length-slots_from (n + 1) allowed

pub length-allowed_slots : (allowed : List Bool) → length (allowed_slots allowed) ≡ count_by (λ may_go. may_go) allowed
length-allowed_slots allowed = length-slots_from 0 allowed ∙ length-filter (λ may_go. may_go) allowed

-- for tactics
pub ruleset count_is = length-allowed_slots

pub nothing_to_pick : (allowed : List Bool) (word : ℕ) → length (allowed_slots allowed) ≡ 0 →
    picked_by allowed word ≡ None
nothing_to_pick allowed word none =
    slice_get_past (allowed_slots allowed) (word % length (allowed_slots allowed)) (omega arith)

pub ruleset none_to_pick = nothing_to_pick

-- each slot that may go is in the list
stands_in : (n : ℕ) (allowed : List Bool) (slot : ℕ) → slice_get allowed slot ≡ Some true →
    (k : ℕ) × (k < length (slots_from n allowed)) × (slice_get (slots_from n allowed) k ≡ Some (n + slot))
stands_in n [] slot e = cc
stands_in n (true ∷ allowed) zero e = (0, omega arith, ap Some (omega arith))
stands_in n (true ∷ allowed) (suc slot) e =
    let later = stands_in (n + 1) allowed slot e in
    (suc later.0, omega (arith, later.1), later.2 ∙ ap Some (omega arith))
stands_in n (false ∷ allowed) zero e = cc
stands_in n (false ∷ allowed) (suc slot) e =
    let later = stands_in (n + 1) allowed slot e in
    (later.0, later.1, later.2 ∙ ap Some (omega arith))

-- and no other
may_go_at : (n : ℕ) (allowed : List Bool) (k slot : ℕ) → slice_get (slots_from n allowed) k ≡ Some slot →
    (i : ℕ) × (slot ≡ n + i) × (slice_get allowed i ≡ Some true)
may_go_at n [] k slot e = cc
may_go_at n (true ∷ allowed) zero slot e = let same : n ≡ slot = cc in (0, omega arith, refl)
may_go_at n (true ∷ allowed) (suc k) slot e =
    let later = may_go_at (n + 1) allowed k slot e in
    (suc later.0, omega (arith, later.1), later.2)
may_go_at n (false ∷ allowed) k slot e =
    let later = may_go_at (n + 1) allowed k slot e in
    (suc later.0, omega (arith, later.1), later.2)

pub can_pick_each : (allowed : List Bool) → CanPickEach allowed
can_pick_each allowed slot e =
    let there = stands_in 0 allowed slot e in
    let same : there.0 % length (allowed_slots allowed) ≡ there.0 = mod-eq_of_lt there.1 in (
      there.0,
      omega (arith, there.1, length-allowed_slots allowed, count_by-le-length (λ may_go. may_go) allowed),
      rw same (there.2 ∙ ap Some (omega arith)),
    )

not-false : (b : Bool) → not b ≡ false → b ≡ true
not-false true e = refl
not-false false e = cc

not-true : (b : Bool) → not b ≡ true → b ≡ false
not-true true e = cc
not-true false e = refl

-- the laws of a choice
first_is_allowed : (allowed : List Bool) → IsAllowed allowed (first_allowed allowed)
first_is_allowed allowed = by (nat_lt (position_or_len (λ may_go. may_go) allowed) (length allowed)) refl
  where
    by : (b : Bool) → nat_lt (position_or_len (λ may_go. may_go) allowed) (length allowed) ≡ b →
        IsAllowed allowed (cond b (Some (position_or_len (λ may_go. may_go) allowed)) None)
    by true e =
        let within = ltb-true _ _ e in
        slice_get-get_or allowed _ false within
        ∙ ap Some (not-false _ (prefix_len_stops (λ may_go. not may_go) allowed false within))
    by false e =
        let past = ltb-false _ _ e in
        λ k d lt. not-true _ (prefix_len_passes (λ may_go. not may_go) allowed k d (omega arith))

none_allowed : (allowed : List Bool) → length (allowed_slots allowed) ≡ 0 → All (λ may_go. may_go ≡ false) allowed
none_allowed allowed none k d lt = by (get_or allowed k d) refl
  where
    by : (b : Bool) → get_or allowed k d ≡ b → b ≡ false
    by true e =
        let there = stands_in 0 allowed k (slice_get-get_or allowed k d lt ∙ ap Some e) in
        absurd (omega (arith, there.1))
    by false e = refl

pick_is_allowed : (allowed : List Bool) (word : ℕ) → IsAllowed allowed (picked_by allowed word)
pick_is_allowed allowed word = by (picked_by allowed word) refl
  where
    by : (chosen : Option ℕ) → picked_by allowed word ≡ chosen → IsAllowed allowed chosen
    by None e =
        elim (cases_lt 0 (length (allowed_slots allowed))) [
          | inl some ↦
              let got = slice_get-get_or (allowed_slots allowed) _ 0 (mod-lt word some) in
              cc
          | inr none ↦ none_allowed allowed (omega arith)
        ]
    by (Some slot) e =
        let at = may_go_at 0 allowed _ slot e in
        let same : slot ≡ at.0 = omega (arith, at.1) in
        rw same at.2

pub choice_is_allowed : (policy : PolicyKind) (allowed : List Bool) (word : ℕ) →
    IsAllowed allowed (choice_of policy allowed word)
choice_is_allowed Lru allowed word = first_is_allowed allowed
choice_is_allowed Fifo allowed word = first_is_allowed allowed
choice_is_allowed (Random seed) allowed word = pick_is_allowed allowed word

-- the policies that evict the first slot that may go
pub oldest_choice : (policy : PolicyKind) (allowed : List Bool) (word : ℕ) → (policy ≡ Lru) ⊎ (policy ≡ Fifo) →
    choice_of policy allowed word ≡ first_allowed allowed
oldest_choice policy allowed word (inl e) = rw e refl
oldest_choice policy allowed word (inr e) = rw e refl
