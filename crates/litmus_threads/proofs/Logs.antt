-- A slice's log, built number by number.
use Rattle.std.proofs.Common.{◌≡◌, ℕ, ◌+◌, ◌<◌, ◌≤◌, ◌∙◌, List, [], ◌∷◌, ◌++◌, Some, ap, arith, inl, inr, length, map}
use Rattle.std.proofs.Common.{subst, sym, take}
use Rattle.std.specs.Prelude.{All, Contains, slice_get}
use Rattle.std.specs.Option.{option_map}
use Rattle.std.proofs.lemmas.Bool.{cases_lt}
use Rattle.std.proofs.lemmas.List.{length-map, take_all, take_more}
use Rattle.std.proofs.lemmas.List.Elements.{All-contains}
use Rattle.std.proofs.lemmas.Option.{get_or_from_slice_get, slice_get-get_or, slice_get-map, slice_get_cases}
use Rattle.receipt_ledger.proofs.Times.{are-once, counted-at}
use Rattle.litmus_threads.specs.Log.{AreEntriesOf, IsNumbered}
use Rattle.slice_log.specs.declared.entry.Entry.{Entry}
use Rattle.receipt_ledger.specs.declared.receipt.Receipt.{Receipt}
use Rattle.address_map.specs.declared.address.SliceId.{SliceId}

-- what is found at a place is inside
inside : {X : Type 0} (xs : List X) (i : ℕ) (x : X) → slice_get xs i ≡ Some x → i < length xs
inside xs i x there = elim (slice_get_cases xs i).1 [
  | inl found ↦ found.1
  | inr past ↦ absurd (let no = sym there ∙ past.1 in cc)
]

-- The receipt of the next number continues the log.
pub log-more : (slice : SliceId) (receipts : List Receipt) (r : Receipt) (whole log grown : List Entry) (number : ℕ)
    → AreEntriesOf slice receipts whole → Contains receipts r → IsNumbered slice number r
    → log ≡ take number whole → grown ≡ log ++ r.entry ∷ [] → grown ≡ take (number + 1) whole
log-more slice receipts r whole log grown number are has is so_far grows =
    let there : slice_get whole number ≡ Some r.entry =
    subst (λ (n : ℕ). slice_get whole n ≡ Some r.entry) is.1 (are.genuine r has is.0) in
    grows ∙ ap (λ (xs : List Entry). xs ++ r.entry ∷ []) so_far
    ∙ ap (λ (e : Entry). take number whole ++ e ∷ []) (sym (get_or_from_slice_get whole number r.entry r.entry there))
    ∙ sym (take_more whole number r.entry (inside whole number r.entry there))

-- If no receipt has the next number, the log is whole.
pub log-whole : (slice : SliceId) (receipts : List Receipt) (whole log : List Entry) (number : ℕ)
    → AreEntriesOf slice receipts whole → All (λ r. ¬ IsNumbered slice number r) receipts → log ≡ take number whole
    → log ≡ whole
log-whole slice receipts whole log number are none so_far = elim (cases_lt number (length whole)) [
  | inl less ↦
      let (r, has, is) = are.whole number less in
      absurd (All-contains (λ (q : Receipt). ¬ IsNumbered slice number q) receipts r none has is)
  | inr past ↦ so_far ∙ take_all number whole past
]

-- the numbers of the receipts
abbrev numbers_of : List Receipt → List ℕ
numbers_of receipts = map (λ r. r.number) receipts

-- each number of the log is one of them
stands : (slice : SliceId) (receipts : List Receipt) (whole : List Entry) → AreEntriesOf slice receipts whole
    → (number : ℕ) → number < length whole → (i : ℕ) × (slice_get (numbers_of receipts) i ≡ Some number)
stands slice receipts whole are number less =
    let (r, has, is) = are.whole number less in (
      has.0,
      slice_get-map (λ (q : Receipt). q.number) receipts has.0
          ∙ ap (option_map (λ (q : Receipt). q.number))
          (slice_get-get_or receipts has.0 r has.1 ∙ ap (λ q. Some q) has.2)
          ∙ ap (λ n. Some n) is.1,
    )

-- The log has no more entries than there are receipts.
pub fewer : (slice : SliceId) (receipts : List Receipt) (whole : List Entry) → AreEntriesOf slice receipts whole
    → length whole ≤ length receipts
fewer slice receipts whole are = elim (cases_lt (length receipts) (length whole)) [
  | inl less ↦
      let long : length (numbers_of receipts) ≡ length receipts = length-map receipts (λ (q : Receipt). q.number) in
      let once = are-once (numbers_of receipts) (λ k small.
      let at = stands slice receipts whole are k (omega (arith, small, long, less)) in
      counted-at k (numbers_of receipts) at.0 at.1) in
      let at = stands slice receipts whole are (length (numbers_of receipts)) (omega (arith, long, less)) in
      let no = once.within at.0 (length (numbers_of receipts)) at.1 in
      absurd (omega (arith, no))
  | inr past ↦ past
]
