-- What one entry adds is at the place of its word, and nowhere else.
use Rattle.std.proofs.Common.{◌≡◌, ℕ, ◌<◌, ◌≤◌, ◌==◌, Bool, true, false, cond, List, [], ◌∷◌, length, get_or, ⊎_elim}
use Rattle.std.proofs.Common.{Some, None, refl, sym, ap, ◌∙◌, arith, zero-add, eqb, eq-eqb, position}
use Rattle.std.specs.Prelude.{if◌then◌else◌}
use Rattle.std.specs.List.{position_or_len}
use Rattle.std.proofs.lemmas.Bool.{cases_eq, cases_order, ne_eqb, eqb-true, ltb-false, false≢true}
use Rattle.std.proofs.lemmas.List.Quantifiers.{position-Some}
use Rattle.std.proofs.lemmas.List.Sums.{fails_before_first}
use Rattle.std.proofs.lemmas.Option.{slice_get_cases}
use Rattle.address_map.specs.declared.address.WordAddr.{WordAddr}
use Rattle.address_map.specs.declared.request.Op.{Op}
use Rattle.address_map.specs.declared.request.Op.TheVariants as ops
use Rattle.address_map.specs.Words.{IsAscendingBy}
use Rattle.slice_log.specs.declared.entry.Entry.{Entry}
use Rattle.slice_log.specs.Log.{added_to, added_by}
use Rattle.receipt_ledger.specs.Sums.{zeros, only, sum_at, sums}
use Rattle.receipt_ledger.proofs.Sums.{sums_same, at_zeros, at_only, at_sums}

-- what one entry adds to the counter at a place, by whether its word is there
added_at : (words : List WordAddr) (e : Entry) (k amount : ℕ)
    → (k < length words → (w : WordAddr) → get_or words k w ≡ w → added_to w.0 e ≡ amount)
    → (length words ≤ k → amount ≡ 0)
    → sum_at words (e ∷ []) k ≡ amount
added_at words e k amount inside past =
    ⊎_elim
    (λ found. rw found.2 (zero-add (added_to found.0.0 e) ∙ inside found.1 found.0 found.3))
    (λ missing. rw missing.1 (sym (past missing.0)))
    (slice_get_cases words k).1

-- an access that isn't an add adds nothing
added_by-other : (op : Op) → ((delta : ℕ) → op ≡ ops.Add delta → ⊥) → added_by op ≡ 0
added_by-other ops.Load other = refl
added_by-other (ops.Store new) other = refl
added_by-other (ops.Add delta) other = absurd (other delta refl)
added_by-other (ops.Cas expect new) other = refl

pub adds_nothing : (words : List WordAddr) (e : Entry)
    → ((delta : ℕ) → e.op ≡ ops.Add delta → ⊥) → sums words (e ∷ []) ≡ zeros
adds_nothing words e other =
    sums_same (sums words (e ∷ [])) zeros
    (λ k within. at_sums words (e ∷ []) k within
    ∙ added_at words e k 0 (λ inside w here. by_word (e.word.0 == w.0)) (λ past. refl) ∙ sym (at_zeros k within))
  where
    by_word : (b : Bool) → (if b then added_by e.op else 0) ≡ 0
    by_word true = added_by-other e.op other
    by_word false = refl

no_place : (b : Bool) (n : ℕ) → cond b (Some n) None ≡ None → b ≡ false
no_place true n e = cc
no_place false n e = refl

-- an entry adds nothing where its word is none of these
pub adds_nowhere : (words : List WordAddr) (e : Entry)
    → position (λ word. word.0 == e.word.0) words ≡ None → sums words (e ∷ []) ≡ zeros
adds_nowhere words e none =
    let is : WordAddr → Bool = λ word. word.0 == e.word.0 in
    let long : length words ≤ position_or_len is words =
    ltb-false (position_or_len is words) (length words) (no_place _ _ none) in
    sums_same (sums words (e ∷ [])) zeros
    (λ k within. at_sums words (e ∷ []) k within
    ∙ added_at words e k 0
    (λ inside w here. other w
    (ap (λ (v : WordAddr). v.0 == e.word.0) (sym here)
    ∙ fails_before_first is words k w (omega (arith, long))))
    (λ past. refl)
    ∙ sym (at_zeros k within))
  where
    other : (w : WordAddr) → eqb w.0 e.word.0 ≡ false → added_to w.0 e ≡ 0
    other w differs = rw (ne_eqb e.word.0 w.0 (λ same. false≢true (sym differs ∙ eq-eqb w.0 e.word.0 (sym same)))) refl

-- what an entry adds to the word at one place, where its own word is at another or there
added_there : (w : WordAddr) (e : Entry) (k place : ℕ)
    → (k ≡ place → w.0 ≡ e.word.0) → ((k ≡ place → ⊥) → w.0 ≡ e.word.0 → ⊥)
    → added_to w.0 e ≡ (if k == place then added_by e.op else 0)
added_there w e k place same apart =
    ⊎_elim
    (λ is. rw (eq-eqb k place is, eq-eqb e.word.0 w.0 (sym (same is))) refl)
    (λ other. rw (ne_eqb k place other, ne_eqb e.word.0 w.0 (λ is. apart other (sym is))) refl)
    (cases_eq k place)

-- two places of an ascending list have two words
apart_by_word : (words : List WordAddr) (k place : ℕ) (d : WordAddr)
    → IsAscendingBy (λ word. word.0) words → k < length words → place < length words
    → (k ≡ place → ⊥) → (get_or words k d).0 ≡ (get_or words place d).0 → ⊥
apart_by_word words k place d ascending inside found apart same =
    ⊎_elim (λ is. apart is)
    (λ strict. ⊎_elim
    (λ below. absurd (omega (arith, ascending k place d below found, same)))
    (λ above. absurd (omega (arith, ascending place k d above inside, same))) strict)
    (cases_order k place)

-- where the word is at one place alone, its counter gets what the entry adds, and no other
pub adds_there : (words : List WordAddr) (e : Entry) (place : ℕ) → IsAscendingBy (λ word. word.0) words
    → position (λ word. word.0 == e.word.0) words ≡ Some place → sums words (e ∷ []) ≡ only place (added_by e.op)
adds_there words e place ascending found =
    let is : WordAddr → Bool = λ word. word.0 == e.word.0 in
    sums_same (sums words (e ∷ [])) (only place (added_by e.op))
    (λ k within. at_sums words (e ∷ []) k within
    ∙ added_at words e k (if k == place then added_by e.op else 0)
    (λ inside w here.
    let at = position-Some is words place w found in
    let its : (get_or words place w).0 ≡ e.word.0 = eqb-true _ _ at.1 in
    let own : (get_or words k w).0 ≡ w.0 = ap (λ (v : WordAddr). v.0) here in
    added_there w e k place
    (λ same. sym own ∙ ap (λ j. (get_or words j w).0) same ∙ its)
    (λ apart same. apart_by_word words k place w ascending inside at.0 apart (own ∙ same ∙ sym its)))
    (λ past. rw (ne_eqb k place (λ same. omega (arith, (position-Some is words place e.word found).0))) refl)
    ∙ sym (at_only place (added_by e.op) k within))
