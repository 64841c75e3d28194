-- What comes before what in each order that explains a history.
use Rattle.std.proofs.Common.{◌≡◌, ◌≢◌, ℕ, ◌^◌, ◌<◌, ◌≤◌, ◌⊎◌, List, length, Some, None, sym, ap, ◌∙◌}
use Rattle.std.proofs.Common.{inl, inr, arith, subst, get_or}
use Rattle.std.specs.Prelude.{slice_get}
use Rattle.std.proofs.lemmas.Bool.{cases_order}
use Rattle.std.proofs.lemmas.Option.{slice_get_within, slice_get-get_or, same_Some}
use Rattle.history_judge.specs.Order.{HasEachOnce, IsOrderOf, HasNoOrder}
use Rattle.history_judge.specs.Before.{found_at, IsBefore, IsBeforeIn, IsInitialAlone, IsSourceOf, IsWrite}
use Rattle.history_judge.specs.Writers.{left_at}
use Rattle.history_judge.specs.declared.access.Access.{Access}
use Rattle.history_judge.proofs.LastChange.{HasNoChange, HasLastChange}
use Rattle.history_judge.proofs.Runs.{IsRun, run_of, value_before, changed_last, left_then, left_then-at}
use Rattle.history_judge.proofs.Runs.{found_at-within, left_at-within}

-- the source of a reader comes before it, and nothing between them changes the word
record IsApart (word : ℕ) (history : List Access) (order : List ℕ) (source to : ℕ) : Type 0 where
  from : ℕ
  stands : slice_get order from ≡ Some source
  before : from < to
  quiet : (m i : ℕ) → from < m → m < to → slice_get order m ≡ Some i → left_at word history i ≡ None

-- a place of the order holds one access
same_access : (order : List ℕ) (k l a b : ℕ) → k ≡ l → slice_get order k ≡ Some a → slice_get order l ≡ Some b → a ≡ b
same_access order k l a b same first last =
    same_Some a b (sym first ∙ ap (λ n. slice_get order n) same ∙ last)

-- the last access that changed the word before a place left this value
left_last : (word : ℕ) (history : List Access) (order : List ℕ) (val : ℕ → ℕ) (to v : ℕ) → v ≡ val to → to < length order
    → (last : HasLastChange val (left_then word history order) to)
    → (slice_get order last.place ≡ Some (get_or order last.place 0))
    × (left_at word history (get_or order last.place 0) ≡ Some v)
left_last word history order val to v found within last =
    let before : last.place < to = last.before in
    let inside : last.place < length order = omega arith in
    let stands = slice_get-get_or order last.place 0 inside in (
      stands,
      sym (left_then-at word history order last.place (get_or order last.place 0) stands) ∙ last.value ∙ ap Some (sym found),
    )

module _ (initial : ℕ → ℕ) (word : ℕ) (history : List Access) (order : List ℕ) (val : ℕ → ℕ)
    (each_once : HasEachOnce (length history) order) (run : IsRun (initial word) word history order val) where
  apart : (source reader to : ℕ) → IsSourceOf initial word history source reader → slice_get order to ≡ Some reader
      → IsApart word history order source to
  apart source reader to from_source stands =
      let within : to < length order = slice_get_within order to reader stands in
      let found : from_source.value ≡ val to = run.finds to reader from_source.value stands from_source.found in
      elim (changed_last (initial word) word history order val run to (omega arith)) [
        | inl none ↦ absurd (from_source.other (found ∙ none.value ∙ run.begins))
        | inr last ↦
            let left = left_last word history order val to from_source.value found within last in
            record {
              from = last.place;
              stands = left.0 ∙ ap Some (from_source.alone.alone (get_or order last.place 0) left.1);
              before = last.before;
              quiet = λ m k behind under here. sym (left_then-at word history order m k here) ∙ last.quiet m behind under;
            }
      ]

  -- where nothing left the value that an access found, nothing before it changed the word
  unchanged : (reader to v : ℕ) → slice_get order to ≡ Some reader → found_at word history reader ≡ Some v
      → ((k : ℕ) → left_at word history k ≢ Some v)
      → HasNoChange val (left_then word history order) to × (v ≡ val to)
  unchanged reader to v stands is never =
      let within : to < length order = slice_get_within order to reader stands in
      let found : v ≡ val to = run.finds to reader v stands is in
      elim (changed_last (initial word) word history order val run to (omega arith)) [
        | inl none ↦ (none, found)
        | inr last ↦
            absurd (never (get_or order last.place 0) ((left_last word history order val to v found within last).1))
      ]

  same_place : (k l a : ℕ) → a < length history → slice_get order k ≡ Some a → slice_get order l ≡ Some a → k ≡ l
  same_place k l a within first last =
      let one = each_once.once a within in
      one.alone k first ∙ sym (one.alone l last)

  source_first : (source reader : ℕ) → IsSourceOf initial word history source reader → IsBefore order source reader
  source_first source reader from_source =
      let p = each_once.once reader (found_at-within word history reader from_source.value from_source.found) in
      let a = apart source reader p.place from_source p.stands in
      record { from = a.from; to = p.place; first = a.stands; last = p.stands; before = a.before }

  raised : (source reader last : ℕ) → IsSourceOf initial word history source reader → IsWrite word history last
      → reader ≢ last → IsBefore order source last → IsBefore order reader last
  raised source reader last from_source write other known =
      let p = each_once.once reader (found_at-within word history reader from_source.value from_source.found) in
      let a = apart source reader p.place from_source p.stands in
      let inside : source < length history = each_once.within a.from source a.stands in
      let same : known.from ≡ a.from = same_place known.from a.from source inside known.first a.stands in
      let first : known.from < known.to = known.before in
      elim (cases_order known.to p.place) [
        | inl here ↦
            absurd (other (same_access order p.place known.to reader last (sym here) p.stands known.last))
        | inr (inl under) ↦
            let none : left_at word history last ≡ None = a.quiet known.to last (omega arith) under known.last in
            absurd (let some : left_at word history last ≡ Some write.value = write.left in cc)
        | inr (inr over) ↦
            record { from = p.place; to = known.to; first = p.stands; last = known.last; before = over }
      ]

  lowered : (source reader first : ℕ) → IsSourceOf initial word history source reader → IsWrite word history first
      → source ≢ first → IsBefore order first reader → IsBefore order first source
  lowered source reader first from_source write other known =
      let a = apart source reader known.to from_source known.last in
      elim (cases_order known.from a.from) [
        | inl here ↦
            absurd (other (same_access order a.from known.from source first (sym here) a.stands known.first))
        | inr (inl under) ↦
            record { from = known.from; to = a.from; first = known.first; last = a.stands; before = under }
        | inr (inr over) ↦
            let none : left_at word history first ≡ None = a.quiet known.from first over known.before known.first in
            absurd (let some : left_at word history first ≡ Some write.value = write.left in cc)
      ]

  initial_first : (reader last : ℕ) → IsInitialAlone initial word history reader → IsWrite word history last → reader ≢ last
      → IsBefore order reader last
  initial_first reader last from_initial write other =
      let p = each_once.once reader (found_at-within word history reader (initial word) from_initial.found) in
      let q = each_once.once last (left_at-within word history last write.value write.left) in
      let none = (unchanged reader p.place (initial word) p.stands from_initial.found from_initial.never).0 in
      elim (cases_order q.place p.place) [
        | inl here ↦ absurd (other (same_access order p.place q.place reader last (sym here) p.stands q.stands))
        | inr (inl under) ↦
            let kept : left_at word history last ≡ None =
            sym (left_then-at word history order q.place last q.stands) ∙ none.quiet q.place under in
            absurd (let some : left_at word history last ≡ Some write.value = write.left in cc)
        | inr (inr over) ↦
            record { from = p.place; to = q.place; first = p.stands; last = q.stands; before = over }
      ]

  unwritten : (reader v : ℕ) → found_at word history reader ≡ Some v → v ≢ initial word
      → ((k : ℕ) → left_at word history k ≢ Some v) → ⊥
  unwritten reader v found other never =
      let p = each_once.once reader (found_at-within word history reader v found) in
      let both = unchanged reader p.place v p.stands found never in
      other (both.1 ∙ both.0.value ∙ run.begins)

module _ (initial : ℕ → ℕ) (history : List Access) (order : List ℕ)
    (is : IsOrderOf initial history order) where
  asked_first : (a b : ℕ) (one other : Access) → slice_get history a ≡ Some one → slice_get history b ≡ Some other
      → one.core.0 ≡ other.core.0 → a < b → IsBefore order a b
  asked_first a b one other here there same less =
      let p = is.each_once.once a (slice_get_within history a one here) in
      let q = is.each_once.once b (slice_get_within history b other there) in
      elim (cases_order p.place q.place) [
        | inl at_one ↦
            absurd (let e : a ≡ b = same_access order p.place q.place a b at_one p.stands q.stands in omega arith)
        | inr (inl under) ↦
            record { from = p.place; to = q.place; first = p.stands; last = q.stands; before = under }
        | inr (inr over) ↦
            let back : b < a =
            is.cores q.place p.place b a other one over q.stands p.stands there here (sym same) in
            absurd (omega arith)
      ]

  ended_first : (a b : ℕ) (one other : Access) → slice_get history a ≡ Some one → slice_get history b ≡ Some other
      → one.end < other.begin → a ≢ b → IsBefore order a b
  ended_first a b one other here there less apart =
      let p = is.each_once.once a (slice_get_within history a one here) in
      let q = is.each_once.once b (slice_get_within history b other there) in
      elim (cases_order p.place q.place) [
        | inl at_one ↦ absurd (apart (same_access order p.place q.place a b at_one p.stands q.stands))
        | inr (inl under) ↦
            record { from = p.place; to = q.place; first = p.stands; last = q.stands; before = under }
        | inr (inr over) ↦
            let kept : other.begin ≤ one.end =
            is.intervals q.place p.place b a other one over q.stands p.stands there here in
            absurd (omega arith)
      ]

  never_itself : (a : ℕ) → IsBefore order a a → ⊥
  never_itself a known =
      let one = is.each_once.once a (is.each_once.within known.from a known.first) in
      let same : known.from ≡ known.to = one.alone known.from known.first ∙ sym (one.alone known.to known.last) in
      let before : known.from < known.to = known.before in
      omega arith

-- ---- the same in each order

module _ (initial : ℕ → ℕ) (word : ℕ) (history : List Access) where
  run_in : initial word < 2 ^ 64 → (order : List ℕ) → IsOrderOf initial history order
      → IsRun (initial word) word history order (value_before initial word history order)
  run_in small order is = run_of initial word history order is.each_once is.legal small

  pub source_before : (source reader : ℕ) → IsSourceOf initial word history source reader
      → IsBeforeIn initial history source reader
  source_before source reader from_source = record {
    each = λ order is.
        source_first initial word history order _ is.each_once (run_in from_source.small order is) source reader
        from_source;
  }

  pub initial_before : (reader last : ℕ) → IsInitialAlone initial word history reader → IsWrite word history last
      → reader ≢ last → IsBeforeIn initial history reader last
  initial_before reader last from_initial write other = record {
    each = λ order is.
        initial_first initial word history order _ is.each_once (run_in from_initial.small order is) reader last
        from_initial write other;
  }

  pub raise : (source reader last : ℕ) → IsSourceOf initial word history source reader → IsWrite word history last
      → reader ≢ last → IsBeforeIn initial history source last → IsBeforeIn initial history reader last
  raise source reader last from_source write other known = record {
    each = λ order is.
        raised initial word history order _ is.each_once (run_in from_source.small order is) source reader last
        from_source write other (known.each order is);
  }

  pub lower : (source reader first : ℕ) → IsSourceOf initial word history source reader → IsWrite word history first
      → source ≢ first → IsBeforeIn initial history first reader → IsBeforeIn initial history first source
  lower source reader first from_source write other known = record {
    each = λ order is.
        lowered initial word history order _ is.each_once (run_in from_source.small order is) source reader first
        from_source write other (known.each order is);
  }

  pub never_unwritten : (reader v : ℕ) → initial word < 2 ^ 64 → found_at word history reader ≡ Some v
      → v ≢ initial word → ((k : ℕ) → left_at word history k ≢ Some v) → HasNoOrder initial history
  never_unwritten reader v small found other never = λ order is.
      unwritten initial word history order _ is.each_once (run_in small order is) reader v found other never

pub chained : (initial : ℕ → ℕ) (history : List Access) (a b d : ℕ) → IsBeforeIn initial history a b
    → IsBeforeIn initial history b d → IsBeforeIn initial history a d
chained initial history a b d one other = record {
  each = λ order is.
      let first = one.each order is in
      let last = other.each order is in
      let place = is.each_once.once b (is.each_once.within first.to b first.last) in
      let same : first.to ≡ last.from = place.alone first.to first.last ∙ sym (place.alone last.from last.first) in
      let early : first.from < first.to = first.before in
      let late : last.from < last.to = last.before in
      record { from = first.from; to = last.to; first = first.first; last = last.last; before = omega arith };
}

pub asked_before : (initial : ℕ → ℕ) (history : List Access) (a b : ℕ) (one other : Access)
    → slice_get history a ≡ Some one → slice_get history b ≡ Some other → one.core.0 ≡ other.core.0 → a < b
    → IsBeforeIn initial history a b
asked_before initial history a b one other here there same less = record {
  each = λ order is. asked_first initial history order is a b one other here there same less;
}

pub ended_before : (initial : ℕ → ℕ) (history : List Access) (a b : ℕ) (one other : Access)
    → slice_get history a ≡ Some one → slice_get history b ≡ Some other → one.end < other.begin → a ≢ b
    → IsBeforeIn initial history a b
ended_before initial history a b one other here there less apart = record {
  each = λ order is. ended_first initial history order is a b one other here there less apart;
}

pub never_around : (initial : ℕ → ℕ) (history : List Access) (a b : ℕ) → a ≡ b
    → IsBeforeIn initial history a b → HasNoOrder initial history
never_around initial history a b same known = λ order is.
    never_itself initial history order is b
    (subst (λ n. IsBefore order n b) same (known.each order is))
