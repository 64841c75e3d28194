-- Counts that are added cell by cell.
use Rattle.std.proofs.Common.{◌≡◌, ◌∙◌, ℕ, zero, suc, ◌+◌, ◌<◌, ◌≤◌, List, [], ◌∷◌, ◌++◌, Option, Some, None, ap, arith, drop, get_or, length}
use Rattle.std.proofs.Common.{add-zero, refl, sym, take, zero-add}
use Rattle.std.proofs.Math.ListN.{take-append-drop}
use Rattle.std.specs.Prelude.{unwrap_or}
use Rattle.script_coverage.specs.Counts.{counted, had, sum_of, sums}

-- the sums of the cells before this one, and the counts of the others
abbrev pub summed_to : ℕ → List (Option ℕ) → List (Option ℕ) → List (Option ℕ)
summed_to cell old more = take cell (sums old more) ++ drop cell old

-- nothing is added
sums_none : (old : List (Option ℕ)) → sums old [] ≡ old
sums_none [] = refl
sums_none (count ∷ old) = refl

summed_none : (cell : ℕ) (old : List (Option ℕ)) → summed_to cell old [] ≡ old
summed_none cell old =
    ap (λ (all : List (Option ℕ)). take cell all ++ drop cell old) (sums_none old) ∙ take-append-drop cell old

-- a count that comes next isn't added yet
pub had_next : (cell : ℕ) (old more : List (Option ℕ)) → had (summed_to cell old more) cell ≡ had old cell
had_next zero old more = refl
had_next (suc cell) [] more = refl
had_next (suc cell) (count ∷ old) [] = ap (λ (all : List (Option ℕ)). had all (suc cell)) (summed_none (suc cell) (count ∷ old))
had_next (suc cell) (count ∷ old) (other ∷ more) = had_next cell old more

-- it is added
more_by : (cell times : ℕ) (old more : List (Option ℕ)) (d : Option ℕ) → cell < length more
    → get_or more cell d ≡ Some times → counted (summed_to cell old more) cell times ≡ summed_to (suc cell) old more
more_by cell times old [] d below is = absurd (omega arith)
more_by zero times [] (other ∷ more) d below is = refl
more_by zero times (None ∷ old) (other ∷ more) d below is =
    ap (λ (count : Option ℕ). count ∷ old) (ap Some (zero-add times) ∙ sym is)
more_by zero times (Some count ∷ old) (other ∷ more) d below is =
    ap (λ (added : Option ℕ). Some (count + unwrap_or added 0) ∷ old) (sym is)
more_by (suc cell) times [] (other ∷ more) d below is = refl
more_by (suc cell) times (count ∷ old) (other ∷ more) d below is =
    ap (λ (all : List (Option ℕ)). sum_of count other ∷ all) (more_by cell times old more d (omega arith) is)

pub summed_more : (cell times : ℕ) (old more : List (Option ℕ)) (d : Option ℕ) → cell < length more
    → get_or more cell d ≡ Some times → counted (summed_to cell old more) cell times ≡ summed_to (cell + 1) old more
summed_more cell times old more d below is =
    let next : suc cell ≡ cell + 1 = omega arith in
    more_by cell times old more d below is ∙ ap (λ k. summed_to k old more) next

-- .. or there is none
past_by : (cell : ℕ) (old more : List (Option ℕ)) (d : Option ℕ) → cell < length more
    → get_or more cell d ≡ None → summed_to cell old more ≡ summed_to (suc cell) old more
past_by cell old [] d below is = absurd (omega arith)
past_by zero [] (other ∷ more) d below is = refl
past_by zero (None ∷ old) (other ∷ more) d below is = ap (λ (count : Option ℕ). count ∷ old) (sym is)
past_by zero (Some count ∷ old) (other ∷ more) d below is =
    ap (λ (count : ℕ). Some count ∷ old) (sym (add-zero count))
    ∙ ap (λ (added : Option ℕ). Some (count + unwrap_or added 0) ∷ old) (sym is)
past_by (suc cell) [] (other ∷ more) d below is = refl
past_by (suc cell) (count ∷ old) (other ∷ more) d below is =
    ap (λ (all : List (Option ℕ)). sum_of count other ∷ all) (past_by cell old more d (omega arith) is)

pub summed_past : (cell : ℕ) (old more : List (Option ℕ)) (d : Option ℕ) → cell < length more
    → get_or more cell d ≡ None → summed_to cell old more ≡ summed_to (cell + 1) old more
summed_past cell old more d below is =
    let next : suc cell ≡ cell + 1 = omega arith in
    past_by cell old more d below is ∙ ap (λ k. summed_to k old more) next

-- all are added
pub summed_all : (cell : ℕ) (old more : List (Option ℕ)) → length more ≤ cell → summed_to cell old more ≡ sums old more
summed_all zero [] more end = refl
summed_all zero (count ∷ old) [] end = refl
summed_all zero (count ∷ old) (other ∷ more) end = absurd (omega arith)
summed_all (suc cell) [] more end = refl
summed_all (suc cell) (count ∷ old) [] end = summed_none (suc cell) (count ∷ old)
summed_all (suc cell) (count ∷ old) (other ∷ more) end =
    ap (λ (all : List (Option ℕ)). sum_of count other ∷ all) (summed_all cell old more (omega arith))
