-- Lists that are made or gone through one by one.
use Rattle.std.proofs.Common.{◌≡◌, ◌∙◌, ℕ, zero, suc, ◌+◌, ◌<◌, ◌≤◌, List, [], ◌∷◌, ◌++◌, ap, append-nil, append_assoc, arith, drop, get_or, inl, inr, length}
use Rattle.std.proofs.Common.{Some, map, rules, subst, sym}
use Rattle.std.proofs.lemmas.Bool.{cases_lt}
use Rattle.std.proofs.lemmas.List.{at_drop_all, at_drop_more}
use Rattle.std.specs.Prelude.{Option, slice_get}
use Rattle.script_coverage.specs.Counts.{counted, counted_all}

-- of a list that is made of another one
module _ {X Y : Type 0} (f : X → Y) (xs : List X) (i : ℕ) (done all : List Y) where
  pub made_more : (d : X) → i < length xs → done ++ map f (drop i xs) ≡ all
      → (done ++ f (get_or xs i d) ∷ []) ++ map f (drop (i + 1) xs) ≡ all
  made_more d below so =
      append_assoc done (f (get_or xs i d) ∷ []) (map f (drop (i + 1) xs))
      ∙ sym (at_drop_more (λ (ys : List X). done ++ map f ys) xs i d below) ∙ so

  pub made_all : length xs ≤ i → done ++ map f (drop i xs) ≡ all → done ≡ all
  made_all end so = sym (append-nil done) ∙ sym (at_drop_all (λ (ys : List X). done ++ map f ys) xs i end) ∙ so

-- of cells that are counted
module _ (cells : List ℕ) (i : ℕ) (now all : List (Option ℕ)) where
  pub counted_more : (d : ℕ) → i < length cells → counted_all now (drop i cells) ≡ all
      → counted_all (counted now (get_or cells i d) 1) (drop (i + 1) cells) ≡ all
  counted_more d below so = sym (at_drop_more (counted_all now) cells i d below) ∙ so

  pub counted_end : length cells ≤ i → counted_all now (drop i cells) ≡ all → now ≡ all
  counted_end end so = sym (at_drop_all (counted_all now) cells i end) ∙ so

-- ---- of what is looked for

pub found_at : {X : Type 0} (xs : List X) (k : ℕ) (x d : X) → k < length xs → get_or xs k d ≡ x → slice_get xs k ≡ Some x
found_at [] k x d within is = absurd (omega arith)
found_at (y ∷ ys) zero x d within is = ap Some is
found_at (y ∷ ys) (suc k) x d within is = found_at ys k x d (omega arith) is

pub here_is : {X : Type 0} (xs : List X) (k : ℕ) (x d : X) → slice_get xs k ≡ Some x → get_or xs k d ≡ x
here_is [] k x d is = search rules
here_is (y ∷ ys) zero x d is = search rules
here_is (y ∷ ys) (suc k) x d is = here_is ys k x d is

-- nothing follows the last
pub none_behind : {X : Type 0} (xs : List X) (k : ℕ) (x : X) → slice_get xs k ≡ Some x → k < length xs
none_behind [] k x is = search rules
none_behind (y ∷ ys) zero x is = omega arith
none_behind (y ∷ ys) (suc k) x is = let below = none_behind ys k x is in omega arith

-- where it isn't among the first, nor the next
pub none_up_to : (P : ℕ → Type 0) (n : ℕ) → ((k : ℕ) → k < n → ¬ P k) → ¬ P n → (k : ℕ) → k < n + 1 → ¬ P k
none_up_to P n before here k within = elim (cases_lt k n) [
  | inl under ↦ before k under
  | inr past ↦ let same : k ≡ n = omega arith in λ p. here (subst P same p)
]
