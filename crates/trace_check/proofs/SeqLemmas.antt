-- The greatest seq of each core and line says which entries are in order.
use Rattle.std.proofs.Common.{◌≡◌, ◌&&◌, ℕ, zero, suc, ◌⊎◌, eq-eqb, ◌/◌, ◌<◌, ◌≤◌, Bool, true, false, cond, eqb, List}
use Rattle.std.proofs.Common.{[], ◌∷◌, ◌++◌, length, get_or, Option, Some, None, refl, sym, ap, ◌∙◌, inl, inr, arith}
use Rattle.std.proofs.Common.{subst}
use Rattle.std.specs.Prelude.{slice_get}
use Rattle.std.proofs.lemmas.Bool.{eqb-true}
use Rattle.std.proofs.lemmas.Option.{slice_get_within, get_or_from_slice_get, slice_get-get_or}
use Rattle.address_map.specs.declared.address.CoreId.{CoreId}
use Rattle.slice_log.specs.declared.entry.Entry.{Entry}
use Rattle.slice_log.specs.Log.{IsAfter}
use Rattle.slice_log.proofs.Pushes.{slice_get-push}
use Rattle.trace_check.specs.Verdict.{IsInOrder}
use Rattle.trace_check.specs.Judge.{AreGreatest, Reaches, IsUpTo}
use Rattle.trace_check.specs.Latest.{latest_of}
use Rattle.trace_check.specs.declared.latest.LatestSeqs.{LatestSeqs}

-- what is kept for an entry of the same core and line
same_latest : (latest : LatestSeqs) (d e : Entry) → d.core ≡ e.core → d.word.0 / 8 ≡ e.word.0 / 8 →
    latest_of latest (d.word.0 / 8) d.core.0 ≡ latest_of latest (e.word.0 / 8) e.core.0
same_latest latest d e core line =
    ap (λ (l : ℕ). latest_of latest l d.core.0) line ∙ ap (λ (c : CoreId). latest_of latest (e.word.0 / 8) c.0) core

same_core : (d e : Entry) → d.core.0 ≡ e.core.0 → d.core ≡ e.core
same_core d e number = ap (λ (n : ℕ). let c : CoreId = record { 0 = n } in c) number

-- an entry that is the only one of its core and line is in order
pub in_order_alone : (latest : LatestSeqs) (log : List Entry) (e : Entry) → AreGreatest latest log
    → latest_of latest (e.word.0 / 8) e.core.0 ≡ None
    → IsInOrder log e
in_order_alone latest log e greatest none = λ k d within core line.
    let x = get_or log k d in
    let kept = greatest.above k x (slice_get-get_or log k d within) in
    absurd (subst (λ o. IsUpTo o x.seq) (same_latest latest x e core line ∙ none) kept)

-- an entry above the greatest seq is in order
pub in_order_above : (latest : LatestSeqs) (log : List Entry) (e : Entry) (s : ℕ) → AreGreatest latest log
    → latest_of latest (e.word.0 / 8) e.core.0 ≡ Some s
    → s < e.seq → IsInOrder log e
in_order_above latest log e s greatest some above = λ k d within core line.
    let x = get_or log k d in
    let kept = greatest.above k x (slice_get-get_or log k d within) in
    let at_most : x.seq ≤ s = subst (λ o. IsUpTo o x.seq) (same_latest latest x e core line ∙ some) kept in
    omega arith

-- an entry that is in order is above it
pub above_in_order : (latest : LatestSeqs) (log : List Entry) (e : Entry) (s : ℕ) → AreGreatest latest log
    → latest_of latest (e.word.0 / 8) e.core.0 ≡ Some s → IsInOrder log e → s < e.seq
above_in_order latest log e s greatest some in_order =
    let r = greatest.reached (e.word.0 / 8) e.core.0 s some in
    let found : get_or log r.at r.entry ≡ r.entry = get_or_from_slice_get log r.at r.entry r.entry r.stands in
    let after : IsAfter r.entry e =
    subst (λ d. IsAfter d e) found (in_order r.at r.entry (slice_get_within log r.at r.entry r.stands)) in
    let above : r.entry.seq < e.seq = after (same_core r.entry e r.of_core) r.of_line in
    let seq : r.entry.seq ≡ s = r.seq in
    omega arith

pub slice_get-append : {X : Type 0} (xs ys : List X) (k : ℕ) (x : X) → slice_get xs k ≡ Some x
    → slice_get (xs ++ ys) k ≡ Some x
slice_get-append [] ys k x h = cc
slice_get-append (z ∷ zs) ys zero x h = h
slice_get-append (z ∷ zs) ys (suc k) x h = slice_get-append zs ys k x h

pub slice_get-last : {X : Type 0} (xs : List X) (y : X) → slice_get (xs ++ y ∷ []) (length xs) ≡ Some y
slice_get-last [] y = refl
slice_get-last (z ∷ zs) y = slice_get-last zs y

pub greatest-nil : (latest : LatestSeqs) → ((line core : ℕ) → latest_of latest line core ≡ None) → AreGreatest latest []
greatest-nil latest none = record {
  above = λ k d at. cc;
  reached = λ line core seq at. let e = none line core in cc;
}

-- what reaches a seq in a log reaches it in a longer one
reaches-push : (log : List Entry) (e : Entry) (line core seq : ℕ) → Reaches log line core seq
    → Reaches (log ++ e ∷ []) line core seq
reaches-push log e line core seq r = record {
  at = r.at;
  entry = r.entry;
  stands = slice_get-append log (e ∷ []) r.at r.entry r.stands;
  of_line = r.of_line;
  of_core = r.of_core;
  seq = r.seq;
}

-- a kept seq that is replaced by a greater one stays at least as great
up_to-replaced : (b : Bool) (was : Option ℕ) (seq new : ℕ) → IsUpTo was seq
    → (b ≡ true → (s : ℕ) → was ≡ Some s → s < new)
    → IsUpTo (cond b (Some new) was) seq
up_to-replaced true None seq new kept above = absurd kept
up_to-replaced true (Some s) seq new kept above = let greater : s < new = above refl s refl in omega arith
up_to-replaced false was seq new kept above = kept

-- what is kept after a replacement is the new seq, or was there before
kept_cases : (b : Bool) (was : Option ℕ) (new seq : ℕ) → cond b (Some new) was ≡ Some seq
    → ((b ≡ true) × (new ≡ seq)) ⊎ (was ≡ Some seq)
kept_cases true was new seq h = inl (refl, cc)
kept_cases false was new seq h = inr h

-- an entry in order is the greatest of its core and line from now on
pub greatest-push : (was now : LatestSeqs) (log : List Entry) (e : Entry) → AreGreatest was log
    → ((line core : ℕ) → latest_of now line core
    ≡ cond (eqb (e.word.0 / 8) line && eqb e.core.0 core) (Some e.seq) (latest_of was line core))
    → IsInOrder log e → AreGreatest now (log ++ e ∷ [])
greatest-push was now log e greatest is in_order = record {
  above = λ k d at. elim (slice_get-push log e k d at) [
    | inl w ↦
        let line : ℕ = d.word.0 / 8 in
        let core : ℕ = d.core.0 in
        subst (λ o. IsUpTo o d.seq) (sym (is line core))
        (up_to-replaced (eqb (e.word.0 / 8) line && eqb e.core.0 core) (latest_of was line core) d.seq e.seq
        (greatest.above k d w.1)
        (λ same s kept.
        let both = both_true (eqb (e.word.0 / 8) line) (eqb e.core.0 core) same in
        above_in_order was log e s greatest
        (ap (λ l. latest_of was l e.core.0) (eqb-true (e.word.0 / 8) line both.0)
        ∙ ap (latest_of was line) (eqb-true e.core.0 core both.1)
        ∙ kept)
        in_order))
    | inr w ↦ subst (λ (x : Entry). IsUpTo (latest_of now (x.word.0 / 8) x.core.0) x.seq) (sym w.1)
        (subst (λ o. IsUpTo o e.seq)
        (sym (is (e.word.0 / 8) e.core.0
        ∙ ap
        (λ b. cond (b && eqb e.core.0 e.core.0) (Some e.seq) (latest_of was (e.word.0 / 8) e.core.0))
        (eq-eqb (e.word.0 / 8) (e.word.0 / 8) refl)
        ∙ ap (λ b. cond b (Some e.seq) (latest_of was (e.word.0 / 8) e.core.0)) (eq-eqb e.core.0 e.core.0 refl)))
        (omega arith))
  ];
  reached =
      λ line core seq at.
      elim (kept_cases
      (eqb (e.word.0 / 8) line && eqb e.core.0 core) (latest_of was line core) e.seq seq (sym (is line core) ∙ at)) [
        | inl w ↦
            let both = both_true (eqb (e.word.0 / 8) line) (eqb e.core.0 core) w.0 in
            record {
              at = length log;
              entry = e;
              stands = slice_get-last log e;
              of_line = eqb-true (e.word.0 / 8) line both.0;
              of_core = eqb-true e.core.0 core both.1;
              seq = w.1;
            }
        | inr w ↦ reaches-push log e line core seq (greatest.reached line core seq w)
      ];
}
  where
    both_true : (a b : Bool) → (a && b) ≡ true → (a ≡ true) × (b ≡ true)
    both_true true b h = (refl, h)
    both_true false b h = absurd (cc h)
