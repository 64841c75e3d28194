-- What a search finds among ascending rows.
use Rattle.std.proofs.Common.{◌≡◌, ℕ, ◌+◌, List, length, get_or, take, drop, ap, ◌∙◌, arith, Result, Ok, Err, IfOk}
use Rattle.std.proofs.Common.{IfErr, length-take, length-drop}
use Rattle.std.specs.Cmp.Lexicographic.{slice_cmp, bytes_decides, texts_ties}
use Rattle.std.specs.List.{All, AllPairs, AllWithin}
use Rattle.std.specs.List.Sorted.{IsSearchInRange, IsBinarySearchResult, IsNonDecreasingBy, IsSortedBy}
use Rattle.std.specs.Ordering.{nat_cmp, ordering_index, ordering_reverse, is_lt, is_eq}
use Rattle.std.specs.declared.cmp.Ordering.{Ordering}
use Rattle.std.specs.declared.cmp.Ordering.TheVariants.{Less, Equal, Greater}
use Rattle.std.proofs.lemmas.Cmp.{nat_list_cmp_total}
use Rattle.std.proofs.lemmas.List.{get_or-take, get_or-drop}
use Rattle.std.proofs.lemmas.List.Sorted.{searchable_from_sorted}
use Rattle.litmus_test.specs.Table.{RowView, IsBelow, IsPlaceOf, IsGapFor}

-- how a row's outcome compares with this one
abbrev pub against : List ℕ → RowView → Ordering
against values row = slice_cmp nat_cmp row.values values

-- lists that compare as equal are the same
pub same_lists : (xs ys : List ℕ) → slice_cmp nat_cmp xs ys ≡ Equal → xs ≡ ys
same_lists xs ys equal = (bytes_decides xs ys).0 (texts_ties xs ys ∙ ap is_eq equal)

-- the other way round
pub turned : (xs ys : List ℕ) → slice_cmp nat_cmp xs ys ≡ Greater → slice_cmp nat_cmp ys xs ≡ Less
turned xs ys greater = nat_list_cmp_total.antisymm ys xs ∙ ap ordering_reverse greater

module _ {X : Type 0} (P : X → Type 0) (xs : List X) (at : ℕ) where
  all_before : AllWithin P xs 0 at → All P (take at xs)
  all_before within k d below =
      let short = length-take at xs in
      rw (get_or-take at xs k d (omega arith)) (within k d (omega arith) (omega arith))

  all_from : AllWithin P xs at (length xs) → All P (drop at xs)
  all_from within k d below =
      let short = length-drop at xs in
      rw (get_or-drop at xs k d) (within (at + k) d (omega arith) (omega arith))

module _ (rows : List RowView) (ascending : AllPairs IsBelow rows) (values : List ℕ) where
  -- no row is below the one before it
  in_order : IsSortedBy (λ a b. is_lt (slice_cmp nat_cmp a.values b.values)) rows
  in_order k d low high =
      ap is_lt (nat_list_cmp_total.antisymm (get_or rows (k + 1) d).values (get_or rows k d).values
      ∙ ap ordering_reverse (ascending k (k + 1) d (omega arith) (omega arith)))

  -- the comparisons with the outcome rise along the rows, as a binary search requires
  comparisons_rise : IsNonDecreasingBy (λ row. ordering_index (against values row)) rows
  comparisons_rise = searchable_from_sorted nat_list_cmp_total (λ (row : RowView). row.values) rows values in_order

  -- a binary search ends at the row of the outcome, or at the gap for it
  pub searched : (r : Result ℕ ℕ) → IsSearchInRange r (length rows) → IsBinarySearchResult (against values) rows r
      → record { found : IfOk r (IsPlaceOf rows values); absent : IfErr r (IsGapFor rows values) }
  searched (Ok at) in_range equal = record {
    found = record { in_range = in_range; has = λ d. same_lists (get_or rows at d).values values (equal d) };
    absent = tt;
  }
  searched (Err at) in_range parted = record {
    found = tt;
    absent = record {
      in_range = in_range;
      smaller_before = all_before (λ row. against values row ≡ Less) rows at (parted comparisons_rise).0;
      greater_after = all_from (λ row. slice_cmp nat_cmp values row.values ≡ Less) rows at
          (λ k d low high. turned (get_or rows k d).values values
          ((parted comparisons_rise).1 k d low high));
    };
  }
