-- A value that steps change is what the last of them that changed it made it, or else what it began with.
use Rattle.std.proofs.Common.{◌≡◌, ℕ, zero, suc, ◌+◌, ◌<◌, ◌≤◌, ◌⊎◌, Option, Some, None, refl, sym, ap, ◌∙◌, inl, inr}
use Rattle.std.proofs.Common.{arith}
use Rattle.std.proofs.lemmas.Bool.{cases_order}

-- none of the steps before k changed the value
pub record HasNoChange (val : ℕ → ℕ) (left : ℕ → Option ℕ) (k : ℕ) : Type 0 where
  pub value : val k ≡ val 0
  pub quiet : (m : ℕ) → m < k → left m ≡ None

-- this step changed it last
pub record HasLastChange (val : ℕ → ℕ) (left : ℕ → Option ℕ) (k : ℕ) : Type 0 where
  pub place : ℕ
  pub before : place < k
  pub value : left place ≡ Some (val k)
  pub quiet : (m : ℕ) → place < m → m < k → left m ≡ None

changed_or_not : (val : ℕ → ℕ) (left : ℕ → Option ℕ) (k : ℕ) (o : Option ℕ) → left k ≡ o
    → (left k ≡ None → val (suc k) ≡ val k)
    → ((u : ℕ) → left k ≡ Some u → val (suc k) ≡ u)
    → HasNoChange val left k ⊎ HasLastChange val left k
    → HasNoChange val left (suc k) ⊎ HasLastChange val left (suc k)
changed_or_not val left k None is keeps sets (inl none) = inl (record {
  value = keeps is ∙ none.value;
  quiet = λ m within. elim (cases_order m k) [
    | inl same ↦ ap left same ∙ is
    | inr (inl under) ↦ none.quiet m under
    | inr (inr over) ↦ absurd (omega arith)
  ];
})
changed_or_not val left k None is keeps sets (inr last) = inr (record {
  place = last.place;
  before = let b : last.place < k = last.before in omega arith;
  value = last.value ∙ ap Some (sym (keeps is));
  quiet = λ m behind within. elim (cases_order m k) [
    | inl same ↦ ap left same ∙ is
    | inr (inl under) ↦ last.quiet m behind under
    | inr (inr over) ↦ absurd (omega arith)
  ];
})
changed_or_not val left k (Some u) is keeps sets so_far = inr (record {
  place = k;
  before = omega arith;
  value = is ∙ ap Some (sym (sets u is));
  quiet = λ m behind within. absurd (omega arith);
})

pub last_change : (n : ℕ) (val : ℕ → ℕ) (left : ℕ → Option ℕ)
    → ((k : ℕ) → k < n → left k ≡ None → val (suc k) ≡ val k)
    → ((k u : ℕ) → k < n → left k ≡ Some u → val (suc k) ≡ u)
    → (k : ℕ) → k ≤ n → HasNoChange val left k ⊎ HasLastChange val left k
last_change n val left keeps sets zero within = inl (record {
  value = refl;
  quiet = λ m none. absurd (omega arith);
})
last_change n val left keeps sets (suc k) within =
    let inside : k < n = omega arith in
    changed_or_not val left k (left k) refl (keeps k inside) (λ u. sets k u inside)
    (last_change n val left keeps sets k (omega arith))
