-- What is held of a line after each change of the write-backs, and that no line comes to occur twice.
use Rattle.std.proofs.Common.{◌≡◌, ◌≢◌, ℕ, ◌<◌, true, false, if◌then◌else◌, List, [], ◌∷◌, ◌++◌, length, get_or, map}
use Rattle.std.proofs.Common.{filter, Some, None, suc, zero, refl, ap, sym, ◌∙◌, arith, not, inl, inr}
use Rattle.std.specs.Option.{option_map}
use Rattle.std.proofs.lemmas.Bool.{cases_Bool, cases_lt, eqb-false, eqb-true, ne_eqb}
use Rattle.std.proofs.lemmas.List.{get_or_append_left, get_or_default, get_or_push, get_or-map, length_push, length-map}
use Rattle.std.proofs.lemmas.Option.{none-some}
use Rattle.cache_table.specs.declared.state.CopyState.{CopyState}
use Rattle.writeback_buffer.specs.declared.pending.PendingWriteBack.{PendingWriteBack}
use Rattle.writeback_buffer.specs.Buffer.{is_of, held_at, in_state, advanced_write_back, HasEachLineOnce}
use Rattle.writeback_buffer.proofs.Places.{PassesOnlyAt, NonePasses, only-later, none-later}

-- a write-back is of one line alone
is_of-other : (write_back : PendingWriteBack) (line other : ℕ) → other ≢ line → is_of line write_back ≡ true →
    is_of other write_back ≡ false
is_of-other write_back line other apart same =
    ne_eqb write_back.line.0 other (λ e. apart (sym e ∙ eqb-true write_back.line.0 line same))

-- what is held is what is at the line's place
pub held_at-only : (write_backs : List PendingWriteBack) (line place : ℕ) (d : PendingWriteBack) →
    PassesOnlyAt (is_of line) write_backs place
    → held_at write_backs line ≡ Some (get_or write_backs place d).leaving
held_at-only [] line place d only = absurd (let inside = only.within in omega (arith, inside))
held_at-only (write_back ∷ rest) line zero d only =
    let first : is_of line write_back ≡ true = only.there write_back in
    rw first refl
held_at-only (write_back ∷ rest) line (suc place) d only =
    let first : is_of line write_back ≡ false = only.elsewhere 0 write_back (omega arith) (omega arith) in
    rw first (held_at-only rest line place d (only-later (is_of line) write_back rest place only))

-- where the line has no write-back, nothing is held of it
pub held_at-none : (write_backs : List PendingWriteBack) (line : ℕ) → NonePasses (is_of line) write_backs →
    held_at write_backs line ≡ None
held_at-none [] line none = refl
held_at-none (write_back ∷ rest) line none =
    let first : is_of line write_back ≡ false = none 0 write_back (omega arith) in
    rw first (held_at-none rest line (none-later (is_of line) write_back rest none))

-- a line of which nothing is held has no write-back
pub none-from_held_at : (write_backs : List PendingWriteBack) (line : ℕ) → held_at write_backs line ≡ None
    → NonePasses (is_of line) write_backs
none-from_held_at [] line absent = λ k d within. absurd (omega arith)
none-from_held_at (write_back ∷ rest) line absent =
    elim (cases_Bool (is_of line write_back)) [
      | inl same ↦ absurd (none-some write_back.leaving (sym absent ∙ rw same refl))
      | inr apart ↦ at-each apart (none-from_held_at rest line (rw apart at absent))
    ]
  where
    at-each : is_of line write_back ≡ false → NonePasses (is_of line) rest → NonePasses (is_of line) (write_back ∷ rest)
    at-each apart later zero d within = apart
    at-each apart later (suc k) d within = later k d (omega arith)

-- a write-back of the line, among write-backs of which no two are of one line, is the only one
pub only-from_once : (write_backs : List PendingWriteBack) (line place : ℕ) (d : PendingWriteBack) →
    HasEachLineOnce write_backs
    → place < length write_backs
    → is_of line (get_or write_backs place d) ≡ true → PassesOnlyAt (is_of line) write_backs place
only-from_once write_backs line place d once within same = record {
  within = within;
  there = here;
  elsewhere = λ k e inside apart.
      ne_eqb (get_or write_backs k e).line.0 line
      (λ is.
      let place_is : (get_or write_backs place e).line.0 ≡ line = eqb-true _ _ (here e) in
      elim (cases_lt k place) [
        | inl before ↦ once k place e before within (is ∙ sym place_is)
        | inr behind ↦ once place k e (omega arith) inside (place_is ∙ sym is)
      ]);
}
  where
    here : (e : PendingWriteBack) → is_of line (get_or write_backs place e) ≡ true
    here e = rw (get_or_default write_backs place e d within) same

-- a line of which nothing is held may be put after the others
pub once-append : (write_backs : List PendingWriteBack) (write_back : PendingWriteBack) → HasEachLineOnce write_backs
    → NonePasses (is_of write_back.line.0) write_backs
    → HasEachLineOnce (write_backs ++ write_back ∷ [])
once-append write_backs write_back once none i j d before within =
    let longer = length_push write_backs write_back in
    let inside : i < length write_backs = omega (arith, longer) in
    let as_before : get_or (write_backs ++ write_back ∷ []) i d ≡ get_or write_backs i d =
    get_or_append_left write_backs (write_back ∷ []) d i inside in
    elim (cases_lt j (length write_backs)) [
      | inl inside_too ↦ rw (as_before, get_or_append_left write_backs (write_back ∷ []) d j inside_too)
          (once i j d before inside_too)
      | inr last ↦
          let place_is : length write_backs ≡ j = omega (arith, longer) in
          rw (as_before, get_or_push write_backs write_back d j place_is) (eqb-false _ _ (none i d inside))
    ]

-- a change that leaves each write-back its line
pub once-map : (change : PendingWriteBack → PendingWriteBack) →
    ((write_back : PendingWriteBack) → (change write_back).line.0 ≡ write_back.line.0)
    → (write_backs : List PendingWriteBack)
    → HasEachLineOnce write_backs → HasEachLineOnce (map change write_backs)
once-map change keeps write_backs once i j d before within =
    let as_many = length-map write_backs change in
    let inside : i < length write_backs = omega (arith, as_many) in
    let inside_too : j < length write_backs = omega (arith, as_many) in
    rw (get_or-map change write_backs i d d inside, get_or-map change write_backs j d d inside_too)
    (λ e. once i j d before inside_too (sym (keeps (get_or write_backs i d)) ∙ e ∙ keeps (get_or write_backs j d)))

-- ---- a line is put

pub held_at-append_same : (write_backs : List PendingWriteBack) (write_back : PendingWriteBack) (line : ℕ) →
    is_of line write_back ≡ true
    → held_at write_backs line ≡ None
    → held_at (write_backs ++ write_back ∷ []) line ≡ Some write_back.leaving
held_at-append_same [] write_back line same absent = rw same refl
held_at-append_same (first ∷ rest) write_back line same absent =
    elim (cases_Bool (is_of line first)) [
      | inl here ↦ absurd (none-some first.leaving (sym absent ∙ rw here refl))
      | inr later ↦ rw later (held_at-append_same rest write_back line same (rw later at absent))
    ]

pub held_at-append_other : (write_backs : List PendingWriteBack) (write_back : PendingWriteBack) (other : ℕ) →
    is_of other write_back ≡ false
    → held_at (write_backs ++ write_back ∷ []) other ≡ held_at write_backs other
held_at-append_other [] write_back other apart = rw apart refl
held_at-append_other (first ∷ rest) write_back other apart =
    ap (λ later. if is_of other first then Some first.leaving else later)
    (held_at-append_other rest write_back other apart)

-- ---- a line is advanced

pub held_at-map_same : (write_backs : List PendingWriteBack) (line : ℕ) (state : CopyState)
    → held_at (map (advanced_write_back line state) write_backs) line
    ≡ option_map (in_state state) (held_at write_backs line)
held_at-map_same [] line state = refl
held_at-map_same (write_back ∷ rest) line state =
    elim (cases_Bool (is_of line write_back)) [
      | inl same ↦ rw same (rw same refl)
      | inr apart ↦ rw apart (rw apart (held_at-map_same rest line state))
    ]

pub held_at-map_other : (write_backs : List PendingWriteBack) (line other : ℕ) (state : CopyState) → other ≢ line
    → held_at (map (advanced_write_back line state) write_backs) other ≡ held_at write_backs other
held_at-map_other [] line other state apart = refl
held_at-map_other (write_back ∷ rest) line other state apart =
    elim (cases_Bool (is_of line write_back)) [
      | inl same ↦
          let not_other : is_of other write_back ≡ false = is_of-other write_back line other apart same in
          rw same (rw not_other (held_at-map_other rest line other state apart))
      | inr differs ↦
          rw differs
          (ap (λ later. if is_of other write_back then Some write_back.leaving else later)
          (held_at-map_other rest line other state apart))
    ]

-- ---- a line is removed

pub held_at-filter_same : (write_backs : List PendingWriteBack) (line : ℕ)
    → held_at (filter (λ write_back. not (is_of line write_back)) write_backs) line ≡ None
held_at-filter_same [] line = refl
held_at-filter_same (write_back ∷ rest) line =
    elim (cases_Bool (is_of line write_back)) [
      | inl same ↦ rw same (held_at-filter_same rest line)
      | inr apart ↦ rw apart (rw apart (held_at-filter_same rest line))
    ]

pub held_at-filter_other : (write_backs : List PendingWriteBack) (line other : ℕ) → other ≢ line
    → held_at (filter (λ write_back. not (is_of line write_back)) write_backs) other ≡ held_at write_backs other
held_at-filter_other [] line other apart = refl
held_at-filter_other (write_back ∷ rest) line other apart =
    elim (cases_Bool (is_of line write_back)) [
      | inl same ↦
          let not_other : is_of other write_back ≡ false = is_of-other write_back line other apart same in
          rw same (rw not_other (held_at-filter_other rest line other apart))
      | inr differs ↦
          rw differs
          (ap (λ later. if is_of other write_back then Some write_back.leaving else later)
          (held_at-filter_other rest line other apart))
    ]
