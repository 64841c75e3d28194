-- Rounds have one table.
use Rattle.std.proofs.Common.{zero, suc, ◌≡◌, ◌⊎◌, ℕ, ◌<◌, ◌≤◌, List, [], ◌∷◌, take, cond, Some, refl, ap, sym, subst}
use Rattle.std.proofs.Common.{◌∙◌, arith, nat_eq, inl, inr}
use Rattle.std.specs.Cmp.Lexicographic.{pointwise, slice_cmp}
use Rattle.std.specs.List.{AllPairs, Contains, slice_get}
use Rattle.std.specs.Ordering.{is_lt, nat_cmp}
use Rattle.std.specs.declared.cmp.Ordering.TheVariants.{Less}
use mathlib.Core.Bool.{true≢false}
use Rattle.std.proofs.lemmas.Bool.{cases_lt}
use Rattle.std.proofs.lemmas.Cmp.{nat_list_cmp_total, tied_itself}
use Rattle.std.proofs.lemmas.List.Elements.{All-contains}
use Rattle.std.proofs.lemmas.List.Sums.{sum_by-cons}
use Rattle.std.proofs.lemmas.Option.{get_or_from_slice_get, slice_get_within}
use Rattle.litmus_test.specs.Table.{RowView, TableView, AreRowsOf, IsBelow, IsRowOf, IsTableOf, count_of}
use Rattle.litmus_test.proofs.Counting.{above_first, alike_itself, ascending_rest}

-- no row is below itself, and of two rows one alone is below the other
not_below_itself : (values : List ℕ) → slice_cmp nat_cmp values values ≡ Less → ⊥
not_below_itself values below = true≢false (sym (ap is_lt below) ∙ ap is_lt (tied_itself nat_list_cmp_total values))

not_both_below : (one other : List ℕ) → slice_cmp nat_cmp one other ≡ Less → slice_cmp nat_cmp other one ≡ Less → ⊥
not_both_below one other below above = not_below_itself one (nat_list_cmp_total.trans one other one below above)

-- an element is the first, or one of the others
first_or_rest : (row : RowView) (rows : List RowView) (x : RowView) → Contains (row ∷ rows) x
    → (row ≡ x) ⊎ Contains rows x
first_or_rest row rows x (zero, within, is) = inl is
first_or_rest row rows x (suc k, within, is) = inr (k, omega (arith, within), is)

none_in_nothing : (x : RowView) → Contains [] x → ⊥
none_in_nothing x found = omega (arith, found.1)

-- rows that ascend and have the same elements are the same
module _ (x : RowView) (xs : List RowView) (y : RowView) (ys : List RowView) where
  same_heads : AllPairs IsBelow (x ∷ xs) → AllPairs IsBelow (y ∷ ys) → Contains (y ∷ ys) x → Contains (x ∷ xs) y → x ≡ y
  same_heads up other_up found other_found =
      elim (first_or_rest y ys x found) [
        | inl is ↦ sym is
        | inr behind ↦ elim (first_or_rest x xs y other_found) [
          | inl is ↦ is
          | inr ahead ↦ absurd (not_both_below x.values y.values
              (All-contains (IsBelow x) xs y (above_first x xs up) ahead)
              (All-contains (IsBelow y) ys x (above_first y ys other_up) behind))
        ]
      ]

  in_the_rest : AllPairs IsBelow (x ∷ xs) → x ≡ y → (z : RowView) → Contains xs z → Contains (y ∷ ys) z → Contains ys z
  in_the_rest up same z ours found =
      elim (first_or_rest y ys z found) [
        | inl is ↦ absurd (not_below_itself z.values
            (subst (λ (first : RowView). IsBelow first z) (same ∙ is)
            (All-contains (IsBelow x) xs z (above_first x xs up) ours)))
        | inr behind ↦ behind
      ]

-- each element of the one is one of the other
abbrev Within : List RowView → List RowView → Type 0
Within xs ys = (z : RowView) → Contains xs z → Contains ys z

more : (row : RowView) (rows : List RowView) (z : RowView) → Contains rows z → Contains (row ∷ rows) z
more row rows z (k, within, is) = (suc k, omega (arith, within), is)

same_elements : (xs ys : List RowView) → AllPairs IsBelow xs → AllPairs IsBelow ys
    → Within xs ys → Within ys xs → xs ≡ ys
same_elements [] [] up other_up within back = refl
same_elements [] (y ∷ ys) up other_up within back = absurd (none_in_nothing y (back y (0, omega arith, refl)))
same_elements (x ∷ xs) [] up other_up within back = absurd (none_in_nothing x (within x (0, omega arith, refl)))
same_elements (x ∷ xs) (y ∷ ys) up other_up within back =
    let heads = same_heads x xs y ys up other_up (within x (0, omega arith, refl)) (back y (0, omega arith, refl)) in
    let tails = same_elements xs ys (ascending_rest x xs up) (ascending_rest y ys other_up)
    (λ z ours. in_the_rest x xs y ys up heads z ours (within z (more x xs z ours)))
    (λ z theirs. in_the_rest y ys x xs other_up (sym heads) z theirs (back z (more y ys z theirs))) in
    λ i. heads i ∷ tails i

-- what a round had is counted in any front that has the round
counted_in_front : (rounds : List (List ℕ)) (k n : ℕ) (values : List ℕ) → slice_get rounds k ≡ Some values → k < n
    → 1 ≤ count_of values (take n rounds)
counted_in_front [] k n values had below = cc
counted_in_front (round ∷ rounds) k zero values had below = absurd (omega (arith, below))
counted_in_front (round ∷ rounds) zero (suc n) values had below =
    let same : round ≡ values = cc in
    let one = ap (λ b. cond {A = ℕ} b 1 0) (ap (pointwise nat_eq values) same ∙ alike_itself values) in
    omega (
      arith,
      one,
      sum_by-cons (λ (other : List ℕ). cond {A = ℕ} (pointwise nat_eq values other) 1 0) round (take n rounds),
    )
counted_in_front (round ∷ rounds) (suc k) (suc n) values had below =
    let rest = counted_in_front rounds k n values had (omega (arith, below)) in
    omega (
      arith,
      rest,
      sum_by-cons (λ (other : List ℕ). cond {A = ℕ} (pointwise nat_eq values other) 1 0) round (take n rounds),
    )

module _ (rounds : List (List ℕ)) where
  -- no round before the first had the outcome
  first_is_least : (row : RowView) → IsRowOf rounds row → (k : ℕ) → slice_get rounds k ≡ Some row.values → row.first ≤ k
  first_is_least row right k had = elim (cases_lt k row.first) [
    | inl earlier ↦ absurd (omega (
      arith,
      right.none_before,
      counted_in_front rounds k row.first row.values had earlier,
    ))
    | inr later ↦ later
  ]

  -- a row is determined by its outcome
  same_row : (x y : RowView) → IsRowOf rounds x → IsRowOf rounds y → x.values ≡ y.values → x ≡ y
  same_row x y right other same =
      let counts : x.rounds ≡ y.rounds =
      right.counted ∙ ap (λ values. count_of values rounds) same ∙ sym other.counted in
      let firsts : x.first ≡ y.first = omega (
        arith,
        first_is_least x right y.first (other.had ∙ ap Some (sym same)),
        first_is_least y other x.first (right.had ∙ ap Some same),
      ) in
      λ i. record { values = same i; rounds = counts i; first = firsts i }

  -- each row of the rounds is in all their tables
  all_within : (xs ys : List RowView) → AreRowsOf rounds xs → AreRowsOf rounds ys → Within xs ys
  all_within xs ys are others x ours =
      let right = All-contains (IsRowOf rounds) xs x are.each_row ours in
      let some = others.each_round x.first x.values (slice_get_within rounds x.first x.values right.had) in
      let y = some.1 in
      let theirs : Contains ys y = (some.0, some.2, some.3) in
      let same : y.values ≡ x.values = some.4 ∙ get_or_from_slice_get rounds x.first x.values x.values right.had in
      subst (Contains ys) (same_row y x (All-contains (IsRowOf rounds) ys y others.each_row theirs) right same) theirs

  -- rounds have exactly one table
  pub one_table_lem : (a b : TableView) → IsTableOf rounds a → IsTableOf rounds b → a ≡ b
  one_table_lem a b is other =
      let rows = same_elements a.rows b.rows is.rows.ascending other.rows.ascending
      (all_within a.rows b.rows is.rows other.rows) (all_within b.rows a.rows other.rows is.rows) in
      let counts : a.rounds ≡ b.rounds = is.count ∙ sym other.count in
      λ i. record { rows = rows i; rounds = counts i }
