-- A log stays legal and ordered when an entry is added that fits.
use Rattle.std.proofs.Common.{◌≡◌, ℕ, zero, suc, ◌+◌, ◌<◌, ◌≤◌, ◌⊎◌, List, [], ◌∷◌, ◌++◌, length, take, get_or, Some}
use Rattle.std.proofs.Common.{refl, sym, ap, ◌∙◌, inl, inr, arith, subst}
use Rattle.std.specs.Prelude.{slice_get, All}
use Rattle.std.proofs.lemmas.List.{take-append-le, take_at, take_more}
use Rattle.std.proofs.lemmas.Option.{slice_get_within, get_or_from_slice_get}
use Rattle.slice_log.specs.declared.entry.Entry.{Entry}
use Rattle.slice_log.specs.Op.{reply_of}
use Rattle.slice_log.specs.Log.{value, IsLegal, IsOrdered, IsAfter}

-- a place of a list with one more element is a place of the list, or the new last one
pub slice_get-push : {X : Type 0} (xs : List X) (y : X) (k : ℕ) (x : X) → slice_get (xs ++ y ∷ []) k ≡ Some x
    → ((k < length xs) × (slice_get xs k ≡ Some x)) ⊎ ((k ≡ length xs) × (x ≡ y))
slice_get-push [] y zero x h = inr (refl, cc)
slice_get-push [] y (suc k) x h = cc
slice_get-push (z ∷ zs) y zero x h = inl (omega arith, h)
slice_get-push (z ∷ zs) y (suc k) x h =
    elim (slice_get-push zs y k x h) [ inl w ↦ inl (omega arith, w.1) | inr w ↦ inr (omega arith, w.1) ]

pub IsLegal-nil : (initial : ℕ → ℕ) → IsLegal initial []
IsLegal-nil initial = record { replies = λ k e h. cc }

pub IsLegal-push : (initial : ℕ → ℕ) (log : List Entry) (e : Entry) → IsLegal initial log
    → e.reply ≡ reply_of e.op (value (initial e.word.0) log e.word.0) → IsLegal initial (log ++ e ∷ [])
IsLegal-push initial log e legal fits = record {
  replies = λ k x at. elim (slice_get-push log e k x at) [
    | inl w ↦ rw (take-append-le k log (e ∷ []) (omega arith)) (legal.replies k x w.1)
    | inr w ↦ rw (w.1, take_at log (e ∷ []) k (sym w.0)) fits
  ];
}

-- a log that is read from its front stays legal with its next entry
pub IsLegal-more : (initial : ℕ → ℕ) (log : List Entry) (i first v : ℕ) (d : Entry) → i < length log
    → IsLegal initial (take i log)
    → first ≡ initial (get_or log i d).word.0 → v ≡ value first (take i log) (get_or log i d).word.0
    → (get_or log i d).reply ≡ reply_of (get_or log i d).op v → IsLegal initial (take (i + 1) log)
IsLegal-more initial log i first v d within so_far begins found fits =
    let e = get_or log i d in
    let now = found ∙ ap (λ n. value n (take i log) e.word.0) begins in
    rw (take_more log i d within) (IsLegal-push initial (take i log) e so_far (fits ∙ ap (reply_of e.op) now))

-- what holds of each element holds of the one at a place
All-slice_get : {X : Type 0} (P : X → Type 0) (xs : List X) (k : ℕ) (x : X) → All P xs → slice_get xs k ≡ Some x → P x
All-slice_get P xs k x all at = subst P (get_or_from_slice_get xs k x x at) (all k x (slice_get_within xs k x at))

pub IsOrdered-nil : IsOrdered []
IsOrdered-nil = record { core_order = λ j k d e before at_j at_k. cc; since = λ k e at. cc }

pub IsOrdered-push : (log : List Entry) (e : Entry) → IsOrdered log → All (λ d. IsAfter d e) log → e.since ≤ length log
    → IsOrdered (log ++ e ∷ [])
IsOrdered-push log e ordered last early = record {
  core_order = λ j k a b before at_j at_k. elim (slice_get-push log e k b at_k) [
    | inl w ↦ elim (slice_get-push log e j a at_j) [
      | inl v ↦ ordered.core_order j k a b before v.1 w.1
      | inr v ↦ absurd (omega arith)
    ]
    | inr w ↦ elim (slice_get-push log e j a at_j) [
      | inl v ↦ rw w.1 (All-slice_get (λ d. IsAfter d e) log j a last v.1)
      | inr v ↦ absurd (omega arith)
    ]
  ];
  since = λ k x at. elim (slice_get-push log e k x at) [
    | inl w ↦ ordered.since k x w.1
    | inr w ↦ rw w.1 (omega arith)
  ];
}
