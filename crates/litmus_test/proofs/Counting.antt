-- Counting rounds row by row: each round is counted by one row.
use Rattle.std.proofs.Common.{zero, suc, ◌||◌, ◌≡◌, ℕ, ◌+◌, ◌<◌, ◌≤◌, List, [], ◌∷◌, length, get_or, take, Bool, true}
use Rattle.std.proofs.Common.{false, cond, refl, ap, sym, ◌∙◌, arith, nat_eq}
use mathlib.Core.Bool.{true≢false}
use Rattle.std.specs.Cmp.Lexicographic.{slice_cmp, pointwise, bytes_decides, texts_ties}
use Rattle.std.specs.List.{All, AllPairs, Any, count_by, list_any, sum_by}
use Rattle.std.specs.Ordering.{nat_cmp, is_eq, ordering_reverse}
use Rattle.std.specs.declared.cmp.Ordering.TheVariants.{Less}
use Rattle.std.proofs.lemmas.Cmp.{nat_list_cmp_total}
use Rattle.std.proofs.lemmas.List.Elements.{All-head, All-tail, All-weaker}
use Rattle.std.proofs.lemmas.List.Sums.{sum_by-cons, sum_by_more, sum_by_more_le_part}
use Rattle.litmus_test.specs.Table.{RowView, AreRowsOf, IsBelow, IsRowOf, count_of}

-- lists that compare as equal are the same, and the test for it says so
pub alike : (xs ys : List ℕ) → pointwise nat_eq xs ys ≡ true → xs ≡ ys
alike xs ys = (bytes_decides xs ys).0

pub alike_itself : (xs : List ℕ) → pointwise nat_eq xs xs ≡ true
alike_itself xs = (bytes_decides xs xs).1 refl

-- of two outcomes, one below the other, neither is the other
pub unlike : (xs ys : List ℕ) → slice_cmp nat_cmp xs ys ≡ Less → pointwise nat_eq xs ys ≡ false
unlike xs ys less = texts_ties xs ys ∙ ap is_eq less

pub unlike_back : (xs ys : List ℕ) → slice_cmp nat_cmp xs ys ≡ Less → pointwise nat_eq ys xs ≡ false
unlike_back xs ys less = texts_ties ys xs ∙ ap is_eq (nat_list_cmp_total.antisymm ys xs ∙ ap ordering_reverse less)

-- all rows after the first are above it, and ascend
pub above_first : (row : RowView) (rows : List RowView) → AllPairs IsBelow (row ∷ rows) → All (IsBelow row) rows
above_first row rows ascending k d below = ascending 0 (suc k) d (omega arith) (omega (arith, below))

pub ascending_rest : (row : RowView) (rows : List RowView) → AllPairs IsBelow (row ∷ rows) → AllPairs IsBelow rows
ascending_rest row rows ascending i j d first later =
    ascending (suc i) (suc j) d (omega (arith, first)) (omega (arith, later))

-- whether a row has the outcome
abbrev pub has_outcome : List ℕ → RowView → Bool
has_outcome outcome row = pointwise nat_eq row.values outcome

pub any_has : (outcome : List ℕ) (rows : List RowView) (k : ℕ) (d : RowView) → k < length rows
    → (get_or rows k d).values ≡ outcome → list_any (has_outcome outcome) rows ≡ true
any_has outcome [] k d below is = absurd (omega (arith, below))
any_has outcome (row ∷ rows) zero d below is = rw is (rw (alike_itself outcome) refl)
any_has outcome (row ∷ rows) (suc k) d below is =
    rw (any_has outcome rows k d (omega (arith, below)) is) (or_true (has_outcome outcome row))
  where
    or_true : (b : Bool) → (b || true) ≡ true
    or_true true = refl
    or_true false = refl

module _ (p : List ℕ → Bool) where
  -- what a row counts of the rounds that pass
  abbrev pub counted_by : RowView → ℕ
  counted_by row = cond (p row.values) row.rounds 0

  -- what it should count, of these rounds
  abbrev share_of : List (List ℕ) → RowView → ℕ
  share_of rounds row = cond (p row.values) (count_of row.values rounds) 0

  -- one more round is counted by a row that has its outcome, and by no other
  share_more : (outcome : List ℕ) (rounds : List (List ℕ)) (row : RowView) (b : Bool) → has_outcome outcome row ≡ b
      → share_of (outcome ∷ rounds) row ≡ share_of rounds row + cond b (cond (p row.values) 1 0) 0
  share_more outcome rounds row b has =
      by (p row.values) b _ (count_of row.values rounds)
      (sum_by-cons (λ round. cond (pointwise nat_eq row.values round) 1 0) outcome rounds
      ∙ ap (λ (same : Bool). cond same 1 0 + count_of row.values rounds) has)
    where
      by : (passes b : Bool) (with without : ℕ) → with ≡ cond b 1 0 + without
          → cond passes with 0 ≡ cond passes without 0 + cond b (cond passes 1 0) 0
      by true true with without more = omega (arith, more)
      by true false with without more = omega (arith, more)
      by false true with without more = refl
      by false false with without more = refl

  -- a round that no row has is counted by none
  shares_none : (outcome : List ℕ) (rounds : List (List ℕ)) (rows : List RowView)
      → All (λ row. has_outcome outcome row ≡ false) rows
      → sum_by (share_of (outcome ∷ rounds)) rows ≡ sum_by (share_of rounds) rows
  shares_none outcome rounds [] none = refl
  shares_none outcome rounds (row ∷ rows) none =
      let head = share_more outcome rounds row false
      (All-head (λ row. has_outcome outcome row ≡ false) row rows none) in
      let rest = shares_none outcome rounds rows (All-tail (λ row. has_outcome outcome row ≡ false) row rows none) in
      let one = sum_by-cons (share_of (outcome ∷ rounds)) row rows in
      let other = sum_by-cons (share_of rounds) row rows in
      omega (arith, head, rest, one, other)

  -- a round that some row has is counted once
  shares_one : (outcome : List ℕ) (rounds : List (List ℕ)) (rows : List RowView) → AllPairs IsBelow rows
      → list_any (has_outcome outcome) rows ≡ true
      → sum_by (share_of (outcome ∷ rounds)) rows ≡ sum_by (share_of rounds) rows + cond (p outcome) 1 0
  shares_one outcome rounds [] ascending some = absurd (true≢false (sym some))
  shares_one outcome rounds (row ∷ rows) ascending some =
      by (has_outcome outcome row) refl some (shares_one outcome rounds rows (ascending_rest row rows ascending))
    where
      one : sum_by (share_of (outcome ∷ rounds)) (row ∷ rows)
          ≡ share_of (outcome ∷ rounds) row + sum_by (share_of (outcome ∷ rounds)) rows
      one = sum_by-cons (share_of (outcome ∷ rounds)) row rows

      other : sum_by (share_of rounds) (row ∷ rows) ≡ share_of rounds row + sum_by (share_of rounds) rows
      other = sum_by-cons (share_of rounds) row rows

      by : (b : Bool) → has_outcome outcome row ≡ b → (b || list_any (has_outcome outcome) rows) ≡ true
          → (list_any (has_outcome outcome) rows ≡ true
          → sum_by (share_of (outcome ∷ rounds)) rows ≡ sum_by (share_of rounds) rows + cond (p outcome) 1 0)
          → sum_by (share_of (outcome ∷ rounds)) (row ∷ rows)
          ≡ sum_by (share_of rounds) (row ∷ rows) + cond (p outcome) 1 0
      by true has some later =
          let same = alike row.values outcome has in
          let head = share_more outcome rounds row true has in
          let passes : cond {A = ℕ} (p row.values) 1 0 ≡ cond {A = ℕ} (p outcome) 1 0 =
          ap (λ (values : List ℕ). cond {A = ℕ} (p values) 1 0) same in
          let none = All-weaker (IsBelow row) (λ later. has_outcome outcome later ≡ false)
          (λ later below. rw (← same) (unlike_back row.values later.values below))
          rows (above_first row rows ascending) in
          let rest = shares_none outcome rounds rows none in
          omega (arith, head, passes, rest, one, other)
      by false has some later =
          let head = share_more outcome rounds row false has in
          omega (arith, head, later some, one, other)

  -- of no rounds there are no shares
  shares_of_none : (rows : List RowView) → sum_by (share_of []) rows ≡ zero
  shares_of_none [] = refl
  shares_of_none (row ∷ rows) =
      omega (arith, sum_by-cons (share_of []) row rows, shares_of_none rows, either (p row.values))
    where
      either : (b : Bool) → cond b zero zero ≡ zero
      either true = refl
      either false = refl

  -- of rounds that each have a row, the shares are all that pass
  shares_all : (rounds : List (List ℕ)) (rows : List RowView) → AllPairs IsBelow rows
      → All (λ outcome. list_any (has_outcome outcome) rows ≡ true) rounds
      → sum_by (share_of rounds) rows ≡ count_by p rounds
  shares_all [] rows ascending each = shares_of_none rows
  shares_all (outcome ∷ rounds) rows ascending each =
      let P : List ℕ → Type 0 = λ outcome. list_any (has_outcome outcome) rows ≡ true in
      let head = shares_one outcome rounds rows ascending (All-head P outcome rounds each) in
      let rest = shares_all rounds rows ascending (All-tail P outcome rounds each) in
      let count = sum_by-cons (λ round. cond (p round) 1 0) outcome rounds in
      omega (arith, head, rest, count)

  -- a row's share is what it counts
  counted_shares : (rounds : List (List ℕ)) (rows : List RowView) → All (IsRowOf rounds) rows
      → sum_by counted_by rows ≡ sum_by (share_of rounds) rows
  counted_shares rounds [] right = refl
  counted_shares rounds (row ∷ rows) right =
      let head = ap (λ n. cond (p row.values) n 0) (All-head (IsRowOf rounds) row rows right).counted in
      let rest = counted_shares rounds rows (All-tail (IsRowOf rounds) row rows right) in
      omega (arith, head, rest, sum_by-cons counted_by row rows, sum_by-cons (share_of rounds) row rows)

  -- the rows count all rounds that pass, each once
  pub all_counted : (rounds : List (List ℕ)) (rows : List RowView) → AreRowsOf rounds rows
      → sum_by counted_by rows ≡ count_by p rounds
  all_counted rounds rows are =
      counted_shares rounds rows are.each_row
      ∙ shares_all rounds rows are.ascending
      (All-weaker (λ outcome. Any (λ (row : RowView). row.values ≡ outcome) rows) _
      (λ outcome some.
      any_has outcome rows some.0 some.1 some.2 (ap (λ (row : RowView). row.values) some.3 ∙ some.4))
      rounds are.each_round)

  -- a row counts no more than its rounds
  counted_by-le : (row : RowView) → counted_by row ≤ row.rounds
  counted_by-le row = by (p row.values)
    where
      by : (b : Bool) → cond b row.rounds 0 ≤ row.rounds
      by true = omega arith
      by false = omega arith

  -- what the rows so far and the next one count is within all rounds
  pub counted_fits : (rows : List RowView) (i : ℕ) (row : RowView) → i < length rows → row ≡ get_or rows i row
      → sum_by counted_by (take i rows) + row.rounds ≤ sum_by (λ (row : RowView). row.rounds) rows
  counted_fits rows i row below is =
      let fits = sum_by_more_le_part counted_by (λ (row : RowView). row.rounds) rows i row below counted_by-le in
      omega (arith, fits, ap (λ (row : RowView). row.rounds) is)

  -- the next row adds its rounds, if they pass
  pub counted_more : (rows : List RowView) (i : ℕ) (row : RowView) → i < length rows → row ≡ get_or rows i row
      → (b : Bool) → b ≡ p row.values
      → sum_by counted_by (take (i + 1) rows) ≡ sum_by counted_by (take i rows) + cond b row.rounds 0
  counted_more rows i row below is b passes =
      sum_by_more counted_by rows i row below
      ∙ ap (λ (next : RowView). sum_by counted_by (take i rows) + counted_by next) (sym is)
      ∙ ap (λ (b : Bool). sum_by counted_by (take i rows) + cond b row.rounds 0) (sym passes)
