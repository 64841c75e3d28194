-- Rows around a place: what ascends, and which outcomes they have.
use Rattle.std.proofs.Common.{zero, suc, ◌||◌, ◌≡◌, ◌⊎◌, ℕ, ◌+◌, ◌<◌, List, [], ◌∷◌, ◌++◌, length, get_or, set, take}
use Rattle.std.proofs.Common.{drop, Bool, true, false, refl, ap, sym, subst, ◌∙◌, arith, nat_eq, drop-cons, inl, inr}
use Rattle.std.specs.Cmp.Lexicographic.{pointwise}
use Rattle.std.specs.List.{All, AllPairs, list_any, sum_by}
use mathlib.Core.Bool.{true≢false}
use Rattle.std.proofs.lemmas.List.{take-append-drop}
use Rattle.std.proofs.lemmas.List.Elements.{All-append, All-cons, All-head, All-nil, All-tail}
use Rattle.std.proofs.lemmas.List.Folds.{Any-from_list_any, list_any-append}
use Rattle.std.proofs.lemmas.List.Kept.{AllPairs-cons}
use Rattle.std.proofs.lemmas.List.Sums.{sum_by-insert, sum_by-set}
use Rattle.litmus_test.specs.Table.{CountsAgain, CountsFirst, Has, IsBelow, IsGapFor, RowView}
use Rattle.litmus_test.proofs.Counting.{above_first, alike, alike_itself, any_has, ascending_rest, has_outcome}
use Rattle.litmus_test.proofs.Counting.{unlike, unlike_back}

-- ---- lists in two parts

module _ {X : Type 0} (P : X → Type 0) where
  pub All-front : (xs ys : List X) → All P (xs ++ ys) → All P xs
  All-front [] ys all = All-nil P
  All-front (x ∷ xs) ys all =
      All-cons P x xs (All-head P x (xs ++ ys) all) (All-front xs ys (All-tail P x (xs ++ ys) all))

  pub All-back : (xs ys : List X) → All P (xs ++ ys) → All P ys
  All-back [] ys all = all
  All-back (x ∷ xs) ys all = All-back xs ys (All-tail P x (xs ++ ys) all)

-- each row of the front is below each of the back
abbrev pub Across : List RowView → List RowView → Type 0
Across front back = All (λ row. All (IsBelow row) back) front

-- what ascends in two parts ascends in each, and across
pub record Parts (front back : List RowView) : Type 0 where
  pub first : AllPairs IsBelow front
  pub second : AllPairs IsBelow back
  pub across : Across front back

pub ascending_parts : (front back : List RowView) → AllPairs IsBelow (front ++ back) → Parts front back
ascending_parts [] back ascending = record {
  first = λ i j d early late. absurd (omega (arith, late));
  second = ascending;
  across = All-nil (λ row. All (IsBelow row) back);
}
ascending_parts (row ∷ front) back ascending =
    let rest = ascending_parts front back (ascending_rest row (front ++ back) ascending) in
    let above = above_first row (front ++ back) ascending in
    record {
      first = AllPairs-cons IsBelow row front (All-front (IsBelow row) front back above) rest.first;
      second = rest.second;
      across = All-cons (λ row. All (IsBelow row) back) row front (All-back (IsBelow row) front back above) rest.across;
    }

pub ascending_whole : (front back : List RowView) → Parts front back → AllPairs IsBelow (front ++ back)
ascending_whole [] back parts = parts.second
ascending_whole (row ∷ front) back parts =
    let P : RowView → Type 0 = λ row. All (IsBelow row) back in
    let rest : Parts front back = record {
      first = ascending_rest row front parts.first;
      second = parts.second;
      across = All-tail P row front parts.across;
    } in
    AllPairs-cons IsBelow row (front ++ back)
    (All-append (IsBelow row) front back (above_first row front parts.first) (All-head P row front parts.across))
    (ascending_whole front back rest)

-- ---- a row between others

module _ (front back : List RowView) (row : RowView) where
  -- the rows around a place, and what is there
  pub record Around : Type 0 where
    pub around : Parts front back
    pub below : All (λ other. IsBelow other row) front
    pub above : All (IsBelow row) back

  pub ascending_around : Around → AllPairs IsBelow (front ++ row ∷ back)
  ascending_around place = ascending_whole front (row ∷ back) (record {
    first = place.around.first;
    second = AllPairs-cons IsBelow row back place.above place.around.second;
    across = λ k d within. All-cons (IsBelow (get_or front k d)) row back
        (place.below k d within) (place.around.across k d within);
  })

  pub around_ascending : AllPairs IsBelow (front ++ row ∷ back) → Around
  around_ascending ascending =
      let parts = ascending_parts front (row ∷ back) ascending in
      record {
        around = record {
          first = parts.first;
          second = ascending_rest row back parts.second;
          across = λ k d within. All-tail (IsBelow (get_or front k d)) row back (parts.across k d within);
        };
        below = λ k d within. All-head (IsBelow (get_or front k d)) row back (parts.across k d within);
        above = above_first row back parts.second;
      }

  -- whether one of the rows has an outcome
  has_around : (outcome : List ℕ) → list_any (has_outcome outcome) (front ++ row ∷ back)
      ≡ (list_any (has_outcome outcome) front || (has_outcome outcome row || list_any (has_outcome outcome) back))
  has_around outcome = list_any-append (has_outcome outcome) front (row ∷ back)

-- ---- which outcomes the rows have

-- a row has the outcome, as a test
any_as_test : (outcome : List ℕ) (rows : List RowView) → Has rows outcome
    → list_any (has_outcome outcome) rows ≡ true
any_as_test outcome rows some =
    any_has outcome rows some.0 some.1 some.2 (ap (λ (row : RowView). row.values) some.3 ∙ some.4)

test_as_any : (outcome : List ℕ) (rows : List RowView) → list_any (has_outcome outcome) rows ≡ true
    → Has rows outcome
test_as_any outcome rows some =
    let found = Any-from_list_any (has_outcome outcome) rows some in
    (found.0, found.1, found.2, found.3, alike found.1.values outcome found.4)

module _ (front back : List RowView) (row : RowView) where
  -- the row in the middle has its outcome
  pub has_middle : Has (front ++ row ∷ back) row.values
  has_middle = test_as_any row.values (front ++ row ∷ back)
      (has_around front back row row.values
      ∙ by (list_any (has_outcome row.values) front) _ (list_any (has_outcome row.values) back) (alike_itself row.values))
    where
      by : (a b c : Bool) → b ≡ true → (a || (b || c)) ≡ true
      by true b c is = refl
      by false b c is = rw is refl

  -- those around it have theirs
  pub has_between : (outcome : List ℕ) → Has (front ++ back) outcome → Has (front ++ row ∷ back) outcome
  has_between outcome some = test_as_any outcome (front ++ row ∷ back)
      (has_around front back row outcome
      ∙ more (list_any (has_outcome outcome) front) (has_outcome outcome row) (list_any (has_outcome outcome) back)
      (sym (list_any-append (has_outcome outcome) front back) ∙ any_as_test outcome (front ++ back) some))
    where
      more : (a b c : Bool) → (a || c) ≡ true → (a || (b || c)) ≡ true
      more true b c is = refl
      more false true c is = refl
      more false false c is = is

  -- another row of its outcome can replace it
  pub has_again : (again : RowView) → again.values ≡ row.values → (outcome : List ℕ)
      → Has (front ++ row ∷ back) outcome → Has (front ++ again ∷ back) outcome
  has_again again same outcome some = test_as_any outcome (front ++ again ∷ back)
      (has_around front back again outcome
      ∙ ap (λ (values : List ℕ). list_any (has_outcome outcome) front
      || (pointwise nat_eq values outcome || list_any (has_outcome outcome) back)) same
      ∙ sym (has_around front back row outcome) ∙ any_as_test outcome (front ++ row ∷ back) some)

-- ---- the edits of the code

-- writing over a row, in two parts
pub set_parts : (rows : List RowView) (at : ℕ) (row : RowView) → at < length rows
    → set rows at row ≡ take at rows ++ row ∷ drop (suc at) rows
set_parts [] at row within = absurd (omega (arith, within))
set_parts (other ∷ rows) zero row within = refl
set_parts (other ∷ rows) (suc at) row within = ap (λ rest. other ∷ rest) (set_parts rows at row (omega (arith, within)))

-- a list in two parts around a place
pub split_at : (rows : List RowView) (at : ℕ) (row : RowView) → at < length rows → row ≡ get_or rows at row
    → rows ≡ take at rows ++ row ∷ drop (suc at) rows
split_at rows at row within is =
    sym (take-append-drop at rows) ∙ ap (λ rest. take at rows ++ rest) (drop-cons rows at row within)
    ∙ ap (λ (here : RowView). take at rows ++ here ∷ drop (suc at) rows) (sym is)

-- if there is a gap for an outcome, no row has it
pub gap_lacks : (values : List ℕ) (rows : List RowView) (at : ℕ) → IsGapFor rows values at
    → Has rows values → ⊥
gap_lacks values rows at gap (k, x, within, is, has) =
    let Differs : RowView → Type 0 = λ row. pointwise nat_eq values row.values ≡ false in
    let front = take at rows in
    let back = drop at rows in
    let apart = All-append Differs front back
    (λ j d below. unlike_back (get_or front j d).values values (gap.smaller_before j d below))
    (λ j d below. unlike values (get_or back j d).values (gap.greater_after j d below)) in
    let differs = subst (All Differs) (take-append-drop at rows) apart k x within in
    let same = ap (pointwise nat_eq values) (ap (λ (row : RowView). row.values) is ∙ has) ∙ alike_itself values in
    true≢false (sym same ∙ differs)

-- ---- how counting changes the rows

-- the rows still ascend, and count `rounds` more rounds
pub record Grows (rounds : ℕ) (old new : List RowView) : Type 0 where
  pub ascending : AllPairs IsBelow old → AllPairs IsBelow new
  pub total : sum_by (λ (row : RowView). row.rounds) new ≡ sum_by (λ (row : RowView). row.rounds) old + rounds

pub grows_again : (more : RowView) (old new : List RowView) → CountsAgain more old new → Grows more.rounds old new
grows_again more old new counts =
    let front = take counts.at old in
    let back = drop (suc counts.at) old in
    let again : RowView = record counts.row { rounds = counts.row.rounds + more.rounds } in
    record {
      ascending = λ ascending.
          let place = around_ascending front back counts.row
          (subst (AllPairs IsBelow) (split_at old counts.at counts.row counts.in_range counts.is) ascending) in
          subst (AllPairs IsBelow) (sym (counts.set_there ∙ set_parts old counts.at again counts.in_range))
          (ascending_around front back again
          (record { around = place.around; below = place.below; above = place.above }));
      total = omega (
        arith,
        ap (sum_by (λ (row : RowView). row.rounds)) counts.set_there,
        sum_by-set (λ (row : RowView). row.rounds) old counts.at again counts.row counts.in_range,
        ap (λ (row : RowView). row.rounds) counts.is,
      );
    }

pub grows_first : (more : RowView) (old new : List RowView) → CountsFirst more old new → Grows more.rounds old new
grows_first more old new counts =
    let front = take counts.at old in
    let back = drop counts.at old in
    record {
      ascending = λ ascending.
          subst (AllPairs IsBelow) (sym counts.inserted) (ascending_around front back more (record {
            around = ascending_parts front back
                (subst (AllPairs IsBelow) (sym (take-append-drop counts.at old)) ascending);
            below = counts.gap.smaller_before;
            above = counts.gap.greater_after;
          }));
      total = ap (sum_by (λ (row : RowView). row.rounds)) counts.inserted
          ∙ sum_by-insert (λ (row : RowView). row.rounds) old counts.at more;
    }

pub grows : (more : RowView) (old new : List RowView) → CountsAgain more old new ⊎ CountsFirst more old new
    → Grows more.rounds old new
grows more old new counts = elim counts [
  | inl again ↦ grows_again more old new again
  | inr first ↦ grows_first more old new first
]
