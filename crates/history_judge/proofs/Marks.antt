-- The places that were noted for an order's accesses, as it is read.
use Rattle.std.proofs.Common.{◌≡◌, ◌≢◌, ℕ, ◌+◌, ◌<◌, ◌≤◌, ◌⊎◌, List, length, get_or, Option, Some, None, refl, sym, ◌∙◌}
use Rattle.std.proofs.Common.{inl, inr, arith, subst}
use Rattle.std.proofs.Math.ListN.{set}
use Rattle.std.specs.Prelude.{slice_get, is_some, All, IsTrue}
use Rattle.std.proofs.lemmas.Bool.{cases_eq, cases_order}
use Rattle.std.proofs.lemmas.List.{get_or-set_same, get_or-set_other, length-set, get_or_default}
use Rattle.std.proofs.lemmas.Option.{slice_get_within, get_or_from_slice_get, same_Some}
use Rattle.history_judge.specs.Order.{HasEachOnce, StandsOnce}

-- each access that was read has its place noted, and each noted place has that access
pub record AreMarks (count : ℕ) (order : List ℕ) (places : List (Option ℕ)) (read : ℕ) : Type 0 where
  pub size : length places ≡ count
  pub noted : (k i : ℕ) → k < read → slice_get order k ≡ Some i
      → (i < count) × (get_or places i None ≡ Some k)
  pub stands : (i k : ℕ) → get_or places i None ≡ Some k → (k < read) × (slice_get order k ≡ Some i)

module _ (count : ℕ) (order : List ℕ) (places : List (Option ℕ)) (read i : ℕ) (marks : AreMarks count order places read)
    (here : slice_get order read ≡ Some i) (free : slice_get places i ≡ Some None) where
  inside : i < length places
  inside = slice_get_within places i None free

  noted_more : (k j : ℕ) → k < read + 1 → slice_get order k ≡ Some j
      → (j < count) × (get_or (set places i (Some read)) j None ≡ Some k)
  noted_more k j under stands =
      let within : i < length places = inside in
      let size : length places ≡ count = marks.size in
      elim (cases_order k read) [
        | inl last ↦
            let same : j ≡ i = same_Some j i (sym stands ∙ subst (λ n. slice_get order n ≡ Some i) (sym last) here) in (
              omega arith,
              subst (λ n. get_or (set places i (Some read)) n None ≡ Some k) (sym same)
                  (subst (λ n. get_or (set places i (Some read)) i None ≡ Some n) (sym last)
                  (get_or-set_same places i (Some read) None within)),
            )
        | inr (inl before) ↦
            let was = marks.noted k j before stands in
            let other : j ≢ i = λ same.
            let none : get_or places i None ≡ None = get_or_from_slice_get places i None None free in
            let some : get_or places i None ≡ Some k = subst (λ n. get_or places n None ≡ Some k) same was.1 in
            cc in
            (was.0, get_or-set_other places i j (Some read) None other ∙ was.1)
        | inr (inr over) ↦ absurd (omega arith)
      ]

  stands_more : (j k : ℕ) → get_or (set places i (Some read)) j None ≡ Some k
      → (k < read + 1) × (slice_get order k ≡ Some j)
  stands_more j k noted = elim (cases_eq j i) [
    | inl same ↦
        let found : get_or (set places i (Some read)) i None ≡ Some k =
        subst (λ n. get_or (set places i (Some read)) n None ≡ Some k) same noted in
        let last : read ≡ k =
        same_Some read k (sym (get_or-set_same places i (Some read) None inside) ∙ found) in (
          omega arith,
          subst (λ n. slice_get order n ≡ Some j) last (subst (λ n. slice_get order read ≡ Some n) (sym same) here),
        )
    | inr other ↦
        let was = marks.stands j k (sym (get_or-set_other places i j (Some read) None other) ∙ noted) in
        let before : k < read = was.0 in
        (omega arith, was.1)
  ]

  pub marks_more : AreMarks count order (set places i (Some read)) (read + 1)
  marks_more = record {
    size = length-set places i (Some read) ∙ marks.size;
    noted = noted_more;
    stands = stands_more;
  }

pub marks_none : (count : ℕ) (order : List ℕ) (places : List (Option ℕ)) → length places ≡ count
    → ((i : ℕ) → get_or places i None ≡ None) → AreMarks count order places 0
marks_none count order places size free = record {
  size = size;
  noted = λ k i none. absurd (omega arith);
  stands = λ i k some. let none : get_or places i None ≡ None = free i in absurd (cc);
}

once_from : (order : List ℕ) (i : ℕ) (o : Option ℕ) → IsTrue (is_some o)
    → ((k : ℕ) → o ≡ Some k → slice_get order k ≡ Some i)
    → ((k : ℕ) → slice_get order k ≡ Some i → o ≡ Some k)
    → StandsOnce order i
once_from order i None there stands noted = absurd (cc)
once_from order i (Some place) there stands noted = record {
  place = place;
  stands = stands place refl;
  alone = λ k here. sym (same_Some place k (noted k here));
}

-- once all were read, and each access has a place
pub each_once : (count : ℕ) (order : List ℕ) (places : List (Option ℕ)) (read : ℕ)
    → AreMarks count order places read → length order ≤ read → All (λ place. IsTrue (is_some place)) places
    → HasEachOnce count order
each_once count order places read marks all there =
    let size : length places ≡ count = marks.size in
    record {
      within = λ k i here.
          let inside : k < length order = slice_get_within order k i here in
          (marks.noted k i (omega arith) here).0;
      once = λ i within.
          once_from order i (get_or places i None) (there i None (omega arith))
          (λ k some. (marks.stands i k some).1)
          (λ k here.
          let inside : k < length order = slice_get_within order k i here in
          (marks.noted k i (omega arith) here).1);
    }

-- ---- an order that has each access once is never refused

pub each_marked : (count : ℕ) (order : List ℕ) (places : List (Option ℕ)) (read : ℕ)
    → AreMarks count order places read → length order ≤ read → HasEachOnce count order
    → All (λ place. IsTrue (is_some place)) places
each_marked count order places read marks all each = λ i d within.
    let size : length places ≡ count = marks.size in
    let one = each.once i (omega arith) in
    let inside : one.place < length order = slice_get_within order one.place i one.stands in
    let noted = marks.noted one.place i (omega arith) one.stands in
    subst (λ (o : Option ℕ). IsTrue (is_some o)) (sym (get_or_default places i d None within ∙ noted.1)) refl

pub not_past : (count : ℕ) (order : List ℕ) (places : List (Option ℕ)) (read i : ℕ)
    → AreMarks count order places read → slice_get order read ≡ Some i → length places ≤ i
    → HasEachOnce count order → ⊥
not_past count order places read i marks here past each =
    let size : length places ≡ count = marks.size in
    let inside : i < count = each.within read i here in
    omega arith

pub not_twice : (count : ℕ) (order : List ℕ) (places : List (Option ℕ)) (read i k : ℕ)
    → AreMarks count order places read → slice_get order read ≡ Some i → slice_get places i ≡ Some (Some k)
    → HasEachOnce count order → ⊥
not_twice count order places read i k marks here noted each =
    let was = marks.stands i k (get_or_from_slice_get places i (Some k) None noted) in
    let one = each.once i (each.within read i here) in
    let same : read ≡ k = one.alone read here ∙ sym (one.alone k was.1) in
    let before : k < read = was.0 in
    omega arith
