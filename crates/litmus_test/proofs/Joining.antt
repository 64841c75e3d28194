-- The rows of two tables together: how one more row of the second changes them, and that they are the table of the
-- rounds of both.
use Rattle.std.proofs.Common.{zero, suc, ◌≡◌, ◌⊎◌, ℕ, ◌+◌, ◌%◌, ◌^◌, ◌<◌, ◌≤◌, List, [], ◌∷◌, ◌++◌, length, get_or, take, drop}
use Rattle.std.proofs.Common.{Bool, true, false, cond, Some, refl, ap, sym, subst, ◌∙◌, arith, nat_eq, inl, inr}
use Rattle.std.proofs.Common.{append_assoc, length-append}
use Rattle.std.specs.Cmp.Lexicographic.{slice_cmp, pointwise}
use Rattle.std.specs.List.{All, AllPairs, Any, slice_get}
use Rattle.std.specs.Ordering.{nat_cmp}
use Rattle.std.specs.declared.cmp.Ordering.TheVariants.{Less}
use Rattle.std.proofs.Math.ListN.{get_or-append}
use Rattle.std.proofs.lemmas.List.{append-nil, get_or_default, take-append-drop, take-append-le, take_more}
use Rattle.std.proofs.lemmas.Option.{slice_get_within}
use mathlib.Core.Bool.{true≢false}
use native.Mathlib.Nat.{mod-eq_of_lt}
use Rattle.std.proofs.lemmas.List.Elements.{All-append, All-cons, All-contains, All-head, All-nil, All-push, All-same, All-tail, All-weaker}
use Rattle.std.proofs.lemmas.List.Quantifiers.{Any-push}
use Rattle.std.proofs.lemmas.List.Sums.{sum_by-append, sum_by-cons, sum_by_push}
use Rattle.litmus_test.specs.Table.{AreRowsOfBoth, CountsAgain, CountsFirst, Has, IsBelow, IsFirstOfBoth, IsRowOfBoth}
use Rattle.litmus_test.specs.Table.{RowView, counted_in}
use Rattle.litmus_test.specs.Table.{AreRowsOf, Counts, IsBoth, IsRowOf, IsTableOf, TableView, count_of}
use Rattle.litmus_test.proofs.Between.{All-back, All-front, around_ascending, ascending_around, ascending_parts}
use Rattle.litmus_test.proofs.Between.{gap_lacks, has_again, has_between, has_middle, set_parts, split_at}
use Rattle.litmus_test.proofs.Counting.{above_first, alike, alike_itself, all_counted, ascending_rest, unlike}
use Rattle.litmus_test.proofs.Counting.{unlike_back}

-- rows of which none has the outcome count none of its rounds
pub counted_none : (values : List ℕ) (rows : List RowView) → ¬ Has rows values → counted_in values rows ≡ 0
counted_none values [] none = refl
counted_none values (row ∷ rows) none =
    let rest = counted_none values rows (λ (k, x, within, is, has). none (suc k, x, omega (arith, within), is, has)) in
    omega (
      arith,
      sum_by-cons (λ (row : RowView). cond {A = ℕ} (pointwise nat_eq values row.values) row.rounds 0) row rows,
      by (pointwise nat_eq values row.values) refl,
      rest,
    )
  where
    by : (b : Bool) → pointwise nat_eq values row.values ≡ b → cond {A = ℕ} b row.rounds 0 ≡ 0
    by true is = absurd (none (0, row, omega arith, refl, sym (alike values row.values is)))
    by false is = refl

-- a row of one list is one of both
any_first : (P : RowView → Type 0) (xs ys : List RowView) → Any P xs → Any P (xs ++ ys)
any_first P xs ys (k, found, within, is, holds) = (
  k,
  found,
  omega (arith, within, length-append xs ys),
  get_or-append xs ys found k within ∙ is,
  holds,
)

any_second : (P : RowView → Type 0) (xs ys : List RowView) → Any P ys → Any P (xs ++ ys)
any_second P [] ys some = some
any_second P (x ∷ xs) ys some =
    let (k, found, within, is, holds) = any_second P xs ys some in
    (suc k, found, omega (arith, within), is, holds)

-- a row of the other table as the one counts it
abbrev pub counted_here : ℕ → RowView → RowView
counted_here from more = record more { first = (from + more.first) % 2 ^ 64 }

module _ (from : ℕ) (one other : List RowView) (more : RowView) where
  abbrev longer : List RowView
  longer = other ++ more ∷ []

  abbrev here : RowView
  here = counted_here from more

  -- what a row counts of one more
  counts_longer : (values : List ℕ) (b : Bool) → pointwise nat_eq values more.values ≡ b
      → counted_in values longer ≡ counted_in values other + cond b more.rounds 0
  counts_longer values b is =
      sum_by_push (λ (row : RowView). cond {A = ℕ} (pointwise nat_eq values row.values) row.rounds 0) other more
      ∙ ap (λ (same : Bool). counted_in values other + cond {A = ℕ} same more.rounds 0) is

  -- the first round stays the first
  first_stays : (row : RowView) (rounds : ℕ) → IsFirstOfBoth from one other row
      → IsFirstOfBoth from one longer (record row { rounds = rounds })
  first_stays row rounds first = elim first [
    | inl here ↦ inl here
    | inr (none, there) ↦ inr (
      none,
      any_first (λ known. (known.values ≡ row.values) × (row.first ≡ (from + known.first) % 2 ^ 64)) other (more ∷ []) there,
    )
  ]

  row_kept : (row : RowView) → pointwise nat_eq row.values more.values ≡ false → IsRowOfBoth from one other row
      → IsRowOfBoth from one longer row
  row_kept row differs right = record {
    counted = omega (arith, right.counted, counts_longer row.values false differs);
    first = first_stays row row.rounds right.first;
  }

  row_again : (row : RowView) → row.values ≡ more.values → IsRowOfBoth from one other row
      → IsRowOfBoth from one longer (record row { rounds = row.rounds + more.rounds })
  row_again row same right = record {
    counted = omega (
      arith,
      right.counted,
      counts_longer row.values true (rw same (alike_itself more.values)),
    );
    first = first_stays row (row.rounds + more.rounds) right.first;
  }

  row_new : ¬ Has one more.values → ¬ Has other more.values → IsRowOfBoth from one longer here
  row_new none none_other = record {
    counted = omega (
      arith,
      counted_none more.values one none,
      counted_none more.values other none_other,
      counts_longer more.values true (alike_itself more.values),
    );
    first = inr (
      none,
      Any-push (λ known. (known.values ≡ more.values) × ((from + more.first) % 2 ^ 64 ≡ (from + known.first) % 2 ^ 64)) other
          more (refl, refl),
    );
  }

  -- each row of both tables and of one more has its outcome
  each_longer : (rows : List RowView) → All (λ row. Has rows row.values) (one ++ other) → Has rows more.values
      → All (λ row. Has rows row.values) (one ++ longer)
  each_longer rows each this =
      All-same (λ row. Has rows row.values) (one ++ longer) ((one ++ other) ++ more ∷ [])
      (sym (append_assoc one other (more ∷ [])))
      (All-push (λ row. Has rows row.values) (one ++ other) more each this)

  -- the row of the outcome counts more
  pub joined_again : (front back : List RowView) (row : RowView) → row.values ≡ more.values
      → AreRowsOfBoth from one other (front ++ row ∷ back)
      → AreRowsOfBoth from one longer (front ++ (record row { rounds = row.rounds + more.rounds }) ∷ back)
  joined_again front back row same are =
      let again : RowView = record row { rounds = row.rounds + more.rounds } in
      let place = around_ascending front back row are.ascending in
      let right = IsRowOfBoth from one other in
      let longer_right = IsRowOfBoth from one longer in
      let back_right = All-back right front (row ∷ back) are.each_row in
      let grown : (values : List ℕ) → Has (front ++ row ∷ back) values → Has (front ++ again ∷ back) values =
      has_again front back row again refl in
      record {
        ascending = ascending_around front back again
            (record { around = place.around; below = place.below; above = place.above });
        each_row = All-append longer_right front (again ∷ back)
            (λ k d within. row_kept (get_or front k d)
            (subst (λ (values : List ℕ). pointwise nat_eq (get_or front k d).values values ≡ false) same
            (unlike (get_or front k d).values row.values (place.below k d within)))
            (All-front right front (row ∷ back) are.each_row k d within))
            (All-cons longer_right again back
            (row_again row same (All-head right row back back_right))
            (λ k d within. row_kept (get_or back k d)
            (subst (λ (values : List ℕ). pointwise nat_eq (get_or back k d).values values ≡ false) same
            (unlike_back row.values (get_or back k d).values (place.above k d within)))
            (All-tail right row back back_right k d within)));
        each_has = each_longer (front ++ again ∷ back)
            (All-weaker (λ (known : RowView). Has (front ++ row ∷ back) known.values)
            (λ (known : RowView). Has (front ++ again ∷ back) known.values)
            (λ known. grown known.values) (one ++ other) are.each_has)
            (subst (Has (front ++ again ∷ back)) same (has_middle front back again));
      }

  -- a new row counts it
  pub joined_new : (front back : List RowView) → AreRowsOfBoth from one other (front ++ back)
      → All (λ row. slice_cmp nat_cmp row.values more.values ≡ Less) front
      → All (λ row. slice_cmp nat_cmp more.values row.values ≡ Less) back
      → ¬ Has (front ++ back) more.values
      → AreRowsOfBoth from one longer (front ++ here ∷ back)
  joined_new front back are below above lacks =
      let right = IsRowOfBoth from one other in
      let longer_right = IsRowOfBoth from one longer in
      let none : ¬ Has (one ++ other) more.values = λ (k, x, within, is, has).
      lacks (subst (Has (front ++ back)) has (All-contains (λ (row : RowView). Has (front ++ back) row.values)
      (one ++ other) x are.each_has (k, within, is))) in
      record {
        ascending = ascending_around front back here
            (record { around = ascending_parts front back are.ascending; below = below; above = above });
        each_row = All-append longer_right front (here ∷ back)
            (λ k d within. row_kept (get_or front k d)
            (unlike (get_or front k d).values more.values (below k d within))
            (All-front right front back are.each_row k d within))
            (All-cons longer_right here back
            (row_new (λ has. none (any_first (λ row. row.values ≡ more.values) one other has))
            (λ has. none (any_second (λ row. row.values ≡ more.values) one other has)))
            (λ k d within. row_kept (get_or back k d)
            (unlike_back more.values (get_or back k d).values (above k d within))
            (All-back right front back are.each_row k d within)));
        each_has = each_longer (front ++ here ∷ back)
            (All-weaker (λ (known : RowView). Has (front ++ back) known.values)
            (λ (known : RowView). Has (front ++ here ∷ back) known.values)
            (λ known has. has_between front back here known.values has) (one ++ other) are.each_has)
            (has_middle front back here);
      }

  -- how counting it changes the rows
  pub joined : (old new : List RowView) → CountsAgain here old new ⊎ CountsFirst here old new
      → AreRowsOfBoth from one other old → AreRowsOfBoth from one longer new
  joined old new counts are = elim counts [
    | inl again ↦
        let front = take again.at old in
        let back = drop (suc again.at) old in
        subst (AreRowsOfBoth from one longer)
        (sym (again.set_there ∙ set_parts old again.at (record again.row { rounds = again.row.rounds + more.rounds }) again.in_range))
        (joined_again front back again.row again.has
        (subst (AreRowsOfBoth from one other) (split_at old again.at again.row again.in_range again.is) are))
    | inr first ↦
        let whole = sym (take-append-drop first.at old) in
        subst (AreRowsOfBoth from one longer) (sym first.inserted)
        (joined_new (take first.at old) (drop first.at old) (subst (AreRowsOfBoth from one other) whole are)
        first.gap.smaller_before first.gap.greater_after
        (λ has. gap_lacks more.values old first.at first.gap (subst (λ rows. Has rows more.values) (sym whole) has)))
  ]

-- the row of an outcome alone counts it
counted_one : (rows : List RowView) → AllPairs IsBelow rows → (k : ℕ) (row : RowView) → k < length rows
    → get_or rows k row ≡ row → row.rounds ≡ counted_in row.values rows
counted_one [] ascending k row within is = absurd (omega (arith, within))
counted_one (first ∷ rows) ascending zero row within is =
    let above = above_first first rows ascending in
    let none : ¬ Has rows row.values = λ (j, other, below, at, has).
    true≢false (sym (alike_itself row.values)
    ∙ subst (λ (values : List ℕ). pointwise nat_eq row.values values ≡ false) (ap (λ (r : RowView). r.values) at ∙ has)
    (subst (λ (values : List ℕ). pointwise nat_eq values (get_or rows j other).values ≡ false)
    (ap (λ (r : RowView). r.values) is) (unlike first.values (get_or rows j other).values (above j other below)))) in
    omega (
      arith,
      sum_by-cons (λ (other : RowView). cond {A = ℕ} (pointwise nat_eq row.values other.values) other.rounds 0) first rows,
      ap (λ (b : Bool). cond {A = ℕ} b first.rounds 0)
          (ap (λ (r : RowView). pointwise nat_eq row.values r.values) is ∙ alike_itself row.values),
      ap (λ (r : RowView). r.rounds) is,
      counted_none row.values rows none,
    )
counted_one (first ∷ rows) ascending (suc k) row within is =
    let below : IsBelow first row =
    subst (IsBelow first) is (above_first first rows ascending k row (omega (arith, within))) in
    omega (
      arith,
      sum_by-cons (λ (other : RowView). cond {A = ℕ} (pointwise nat_eq row.values other.values) other.rounds 0) first rows,
      ap (λ (b : Bool). cond {A = ℕ} b first.rounds 0) (unlike_back first.values row.values below),
      counted_one rows (ascending_rest first rows ascending) k row (omega (arith, within)) is,
    )

-- a table and one of no rows
pub joined_none : (from : ℕ) (rows : List RowView) → AllPairs IsBelow rows → AreRowsOfBoth from rows [] rows
joined_none from rows ascending = record {
  ascending = ascending;
  each_row = λ k d within.
      let row = get_or rows k d in
      let is = get_or_default rows k row d within in
      record {
        counted = omega (arith, counted_one rows ascending k row within is);
        first = inl (k, row, within, is, (refl, refl));
      };
  each_has = All-same (λ (row : RowView). Has rows row.values) (rows ++ []) rows (append-nil rows)
      (λ k d within. (k, get_or rows k d, within, get_or_default rows k (get_or rows k d) d within, refl));
}

-- ---- the rounds of both

slice_get_front : (rounds more : List (List ℕ)) (k : ℕ) (outcome : List ℕ) → slice_get rounds k ≡ Some outcome
    → slice_get (rounds ++ more) k ≡ Some outcome
slice_get_front [] more k outcome is = cc
slice_get_front (round ∷ rounds) more zero outcome is = is
slice_get_front (round ∷ rounds) more (suc k) outcome is = slice_get_front rounds more k outcome is

slice_get_behind : (rounds more : List (List ℕ)) (k n : ℕ) → n ≡ length rounds + k
    → slice_get (rounds ++ more) n ≡ slice_get more k
slice_get_behind [] more k n is = ap (slice_get more) (omega (arith, is))
slice_get_behind (round ∷ rounds) more k zero is = absurd (omega (arith, is))
slice_get_behind (round ∷ rounds) more k (suc n) is = slice_get_behind rounds more k n (omega (arith, is))

take_behind : (rounds more : List (List ℕ)) (k n : ℕ) → n ≡ length rounds + k
    → take n (rounds ++ more) ≡ rounds ++ take k more
take_behind [] more k n is = ap (λ m. take m more) (omega (arith, is))
take_behind (round ∷ rounds) more k zero is = absurd (omega (arith, is))
take_behind (round ∷ rounds) more k (suc n) is = ap (λ rest. round ∷ rest) (take_behind rounds more k n (omega (arith, is)))

module _ (rounds more : List (List ℕ)) (one other : List RowView) where
  count_both : (values : List ℕ) → count_of values (rounds ++ more) ≡ count_of values rounds + count_of values more
  count_both values = sum_by-append (λ (round : List ℕ). cond {A = ℕ} (pointwise nat_eq values round) 1 0) rounds more

  -- a row of both tables is one of all rounds
  row_of_both : (row : RowView) → AreRowsOf rounds one → AreRowsOf more other → length rounds + length more < 2 ^ 64
      → IsRowOfBoth (length rounds) one other row → IsRowOf (rounds ++ more) row
  row_of_both row are others few both =
      let counted : row.rounds ≡ count_of row.values (rounds ++ more) = omega (
        arith,
        both.counted,
        count_both row.values,
        all_counted (pointwise nat_eq row.values) rounds one are,
        all_counted (pointwise nat_eq row.values) more other others,
      ) in
      elim both.first [
        | inl (k, known, within, is, (same, first)) ↦
            let right = All-contains (IsRowOf rounds) one known are.each_row (k, within, is) in
            let early : known.first ≤ length rounds =
            omega (arith, slice_get_within rounds known.first known.values right.had) in
            record {
              counted = counted;
              had = ap (slice_get (rounds ++ more)) first
                  ∙ slice_get_front rounds more known.first known.values right.had ∙ ap Some same;
              none_before = ap (λ n. count_of row.values (take n (rounds ++ more))) first
                  ∙ ap (count_of row.values) (take-append-le known.first rounds more early)
                  ∙ ap (λ (values : List ℕ). count_of values (take known.first rounds)) (sym same) ∙ right.none_before;
            }
        | inr (none, (k, known, within, is, (same, first))) ↦
            let right = All-contains (IsRowOf more) other known others.each_row (k, within, is) in
            let early : known.first < length more = slice_get_within more known.first known.values right.had in
            let at : row.first ≡ length rounds + known.first =
            first ∙ mod-eq_of_lt (omega (arith, early, few)) in
            record {
              counted = counted;
              had = slice_get_behind rounds more known.first row.first at ∙ right.had ∙ ap Some same;
              none_before =
                  ap (count_of row.values) (take_behind rounds more known.first row.first at)
                  ∙ omega (
                    arith,
                    sum_by-append (λ (round : List ℕ). cond {A = ℕ} (pointwise nat_eq row.values round) 1 0) rounds
                        (take known.first more),
                    all_counted (pointwise nat_eq row.values) rounds one are,
                    counted_none row.values one none,
                    ap (λ (values : List ℕ). count_of values (take known.first more)) (sym same),
                    right.none_before,
                  );
            }
      ]

  -- a round that one table has is a round that both have
  has_of_both : (rows these : List RowView) (round : List ℕ) → All (λ (row : RowView). Has rows row.values) these
      → Has these round → Has rows round
  has_of_both rows these round each (k, row, within, is, same) =
      subst (Has rows) same (All-contains (λ (row : RowView). Has rows row.values) these row each (k, within, is))

  rows_of_both : (rows : List RowView) → AreRowsOf rounds one → AreRowsOf more other
      → length rounds + length more < 2 ^ 64 → AreRowsOfBoth (length rounds) one other rows
      → AreRowsOf (rounds ++ more) rows
  rows_of_both rows are others few both = record {
    ascending = both.ascending;
    each_row = All-weaker (IsRowOfBoth (length rounds) one other) (IsRowOf (rounds ++ more))
        (λ row right. row_of_both row are others few right) rows both.each_row;
    each_round = All-append (Has rows) rounds more
        (All-weaker (Has one) (Has rows)
        (λ round. has_of_both rows one round (All-front (λ (row : RowView). Has rows row.values) one other both.each_has))
        rounds are.each_round)
        (All-weaker (Has other) (Has rows)
        (λ round. has_of_both rows other round (All-back (λ (row : RowView). Has rows row.values) one other both.each_has))
        more others.each_round);
  }

-- two tables together are the table of all their rounds
pub table_of_both : (from : ℕ) (rounds more : List (List ℕ)) (one other both : TableView) → from ≡ length rounds
    → IsTableOf rounds one → IsTableOf more other → one.rounds + other.rounds < 2 ^ 64 → IsBoth from one other both
    → IsTableOf (rounds ++ more) both
table_of_both from rounds more one other both begins is others few together = record {
  rows = rows_of_both rounds more one.rows other.rows both.rows is.rows others.rows
      (omega (arith, is.count, others.count, few))
      (subst (λ n. AreRowsOfBoth n one.rows other.rows both.rows) begins together.rows);
  count = omega (arith, together.rounds, is.count, others.count, length-append rounds more);
}

-- ---- one round more

-- the table of one round
table_of_one : (values : List ℕ) (row : RowView) → row.values ≡ values → row.rounds ≡ 1 → row.first ≡ 0
    → IsTableOf (values ∷ []) (record { rows = row ∷ []; rounds = 1 })
table_of_one values row same one first = record {
  rows = record {
    ascending = λ i j d before within. absurd (omega (arith, before, within));
    each_row = All-cons (IsRowOf (values ∷ [])) row [] (record {
      counted = omega (
        arith,
        one,
        sum_by-cons (λ (round : List ℕ). cond {A = ℕ} (pointwise nat_eq row.values round) 1 0) values [],
        ap (λ (b : Bool). cond {A = ℕ} b 1 0)
            (ap (λ (v : List ℕ). pointwise nat_eq v values) same ∙ alike_itself values),
      );
      had = ap (slice_get (values ∷ [])) first ∙ ap Some (sym same);
      none_before = ap (λ n. count_of row.values (take n (values ∷ []))) first;
    }) (All-nil (IsRowOf (values ∷ [])));
    each_round = All-cons (Has (row ∷ [])) values [] (0, row, omega arith, refl, same) (All-nil (Has (row ∷ [])));
  };
  count = refl;
}

-- a table that counts the outcome of one more round is the table of one more
pub one_more : (rounds : List (List ℕ)) (values : List ℕ) (old new : TableView) → IsTableOf rounds old
    → old.rounds + 1 < 2 ^ 64 → Counts (record { values = values; rounds = 1; first = old.rounds }) old new
    → IsTableOf (rounds ++ values ∷ []) new
one_more rounds values old new is few counts =
    let more : RowView = record { values = values; rounds = 1; first = 0 } in
    let first : old.rounds ≡ (old.rounds + 0) % 2 ^ 64 = omega (arith, mod-eq_of_lt {n = old.rounds + 0} {m = 2 ^ 64} (omega (arith, few))) in
    let here : CountsAgain (counted_here old.rounds more) old.rows new.rows
    ⊎ CountsFirst (counted_here old.rounds more) old.rows new.rows =
    subst (λ n. CountsAgain (record { values = values; rounds = 1; first = n }) old.rows new.rows
    ⊎ CountsFirst (record { values = values; rounds = 1; first = n }) old.rows new.rows) first counts.rows in
    table_of_both old.rounds rounds (values ∷ []) old (record { rows = more ∷ []; rounds = 1 }) new is.count is
    (table_of_one values more refl refl refl) few (record {
      rows = joined old.rounds old.rows [] more old.rows new.rows here
          (joined_none old.rounds old.rows is.rows.ascending);
      rounds = counts.rounds;
    })

-- ---- a table row by row

module _ (from : ℕ) (one rows new : List RowView) (i : ℕ) where
  -- the next row is counted
  pub joined_next : (old : List RowView) (row : RowView) → i < length rows → row ≡ get_or rows i row
      → CountsAgain (counted_here from row) old new ⊎ CountsFirst (counted_here from row) old new
      → AreRowsOfBoth from one (take i rows) old → AreRowsOfBoth from one (take (i + 1) rows) new
  joined_next old row within is counts are =
      subst (λ these. AreRowsOfBoth from one these new)
      (ap (λ (r : RowView). take i rows ++ r ∷ []) is ∙ sym (take_more rows i row within))
      (joined from one (take i rows) row old new counts are)
