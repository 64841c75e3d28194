-- How many targets of a line a copy performs in its state, and whether some are left.
use Rattle.std.proofs.Common.{◌≡◌, ℕ, ◌+◌, ◌==◌, Bool, true, false, cond, ◌&&◌, nat_lt, List, [], ◌∷◌, length, take}
use Rattle.std.proofs.Common.{refl, ap, sym, ◌∙◌, arith, inl, inr}
use Rattle.std.proofs.lemmas.Bool.{cases_eq, cases_lt, eq-eqb, ne_eqb, lt-ltb, le-ltb}
use Rattle.std.proofs.lemmas.List.{length-drop}
use Rattle.std.proofs.lemmas.List.Folds.{length-prefix_len}
use Rattle.std.specs.List.{list_all, prefix_len}
use Rattle.mshr_file.specs.Miss.{is_waited}
use Rattle.target_list.specs.Target.{is_load, front_loads, behind_loads}
use Rattle.target_list.specs.declared.target.Target.{Target}

-- a line is waited for exactly where it has a target
pub is_waited-some : (targets : List Target) → nat_lt 0 (length targets) ≡ is_waited targets
is_waited-some [] = refl
is_waited-some (target ∷ targets) = lt-ltb 0 (length (target ∷ targets)) (omega arith)

-- the first n targets, where n loads are in front, are these loads
pub take-front_loads : (targets : List Target) → take (length (front_loads targets)) targets ≡ front_loads targets
take-front_loads targets = ap (λ n. take n targets) (length-prefix_len is_load targets)

-- some are left where there are more
pub more-front_loads : (targets : List Target) →
    nat_lt (length (front_loads targets)) (length targets) ≡ is_waited (behind_loads targets)
more-front_loads targets =
    let front = prefix_len is_load targets in
    let long = length-drop front targets in
    ap (λ n. nat_lt n (length targets)) (length-prefix_len is_load targets)
    ∙ elim (cases_lt front (length targets)) [
      | inl more ↦ lt-ltb front (length targets) more
          ∙ sym (lt-ltb 0 (length (behind_loads targets)) (omega (arith, long)))
      | inr all ↦ le-ltb front (length targets) all
          ∙ sym (le-ltb 0 (length (behind_loads targets)) (omega (arith, long)))
    ]
    ∙ is_waited-some (behind_loads targets)

-- ---- a line for which no write waits

one_more : (a b c d : ℕ) → a ≡ 1 + c → b ≡ 1 + d → (a == b) ≡ (c == d)
one_more a b c d e f =
    elim (cases_eq c d) [
      | inl same ↦ eq-eqb a b (omega arith) ∙ sym (eq-eqb c d same)
      | inr apart ↦ ne_eqb a b (omega arith) ∙ sym (ne_eqb c d apart)
    ]

passing : (targets : List Target) → (prefix_len is_load targets == length targets) ≡ list_all is_load targets
passing [] = refl
passing (target ∷ targets) = by (is_load target) (passing targets)
  where
    by : (b : Bool) → (prefix_len is_load targets == length targets) ≡ list_all is_load targets →
        (cond b (1 + prefix_len is_load targets) 0 == length (target ∷ targets)) ≡ (b && list_all is_load targets)
    by true rest = one_more _ (length (target ∷ targets)) (prefix_len is_load targets)
        (length targets) refl (omega arith) ∙ rest
    by false rest = ne_eqb 0 (length (target ∷ targets)) (omega arith)

-- all targets are loads exactly where the loads in front are as many as the targets
pub all-front_loads : (targets : List Target) →
    (length (front_loads targets) == length targets) ≡ list_all is_load targets
all-front_loads targets = ap (λ n. n == length targets) (length-prefix_len is_load targets) ∙ passing targets
