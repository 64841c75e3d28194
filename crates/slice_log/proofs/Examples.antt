-- What the definitions of a log come to on small logs.
use Rattle.std.proofs.Common.{◌≡◌, ◌<◌, ◌≤◌, ℕ, [], ◌∷◌, refl, sym, ap, arith}
use Rattle.std.specs.Prelude.{All}
use Rattle.std.proofs.lemmas.List.Elements.{All-cons, All-nil}
use Rattle.address_map.specs.declared.request.Op.{Op}
use Rattle.address_map.specs.declared.request.Op.TheVariants as ops
use Rattle.slice_log.specs.declared.entry.Entry.{Entry}
use Rattle.slice_log.specs.Log.{value, initially, named, IsLegal, IsOrdered, IsAfter}
use Rattle.slice_log.proofs.Pushes.{IsLegal-nil, IsLegal-push, IsOrdered-nil, IsOrdered-push}

-- an access of core 0 to a word, with its reply
abbrev performed_at : ℕ → Op → ℕ → Entry
performed_at word op reply =
    record { op = op; word = record { 0 = word }; seq = 0; reply = reply; since = 0; core = record { 0 = 0 }; tag = 0 }

-- a load that a core asked for as its request of this number, when the log was that long
abbrev asked_at : ℕ → ℕ → ℕ → ℕ → Entry
asked_at core word seq since =
    record {
      op = ops.Load;
      word = record { 0 = word };
      seq = seq;
      reply = 0;
      since = since;
      core =
          record { 0 = core };
      tag = 0;
    }

differ : (a b : ℕ) → a < b → a ≡ b → ⊥
differ a b below same = omega arith

-- Word 3 begins as 9. What was added before the store doesn't count, nor does what happens to word 4.
value-after_store : value 9 (performed_at 3 (ops.Add 5) 9 ∷ performed_at 3 (ops.Store 7) 0
    ∷ performed_at 4 (ops.Store 1) 0 ∷ []) 3 ≡ 7
unfolding value
value-after_store = refl

-- Adds count from the last store on, or from the initial value.
value-after_adds : value 9 (performed_at 3 (ops.Add 5) 9 ∷ performed_at 3 (ops.Add 6) 14 ∷ []) 3 ≡ 20
unfolding value
value-after_adds = refl

-- A compare-exchange that replied what it expected stores.
value-after_match : value 9 (performed_at 3 (ops.Cas 9 2) 9 ∷ performed_at 3 (ops.Add 6) 2 ∷ []) 3 ≡ 8
unfolding value
value-after_match = refl

-- One that replied another value stores nothing.
value-after_mismatch : value 9 (performed_at 3 (ops.Cas 8 2) 9 ∷ performed_at 3 (ops.Add 6) 9 ∷ []) 3 ≡ 15
unfolding value
value-after_mismatch = refl

-- Values are words: 2^64 - 1 and 3 more is 2.
value-wraps : value 18446744073709551615 (performed_at 3 (ops.Add 3) 18446744073709551615 ∷ []) 3 ≡ 2
unfolding value
value-wraps = refl

-- The sum of what was added isn't reduced: 2^64 - 1 and 3 more is 2^64 + 2.
named-past_a_word : named (performed_at 3 (ops.Add 18446744073709551615) 0
    ∷ performed_at 3 (ops.Add 3) 18446744073709551615 ∷ []) 3 ≡ 18446744073709551618
named-past_a_word = refl

-- Word 3 begins as 9, and word 4 isn't named: loads of them reply 9 and 0.
legal-loads : IsLegal (initially ((record { 0 = 3 }, 9) ∷ []))
    (performed_at 3 ops.Load 9 ∷ performed_at 4 ops.Load 0 ∷ [])
unfolding value
legal-loads = IsLegal-push _ _ _ (IsLegal-push _ _ _ (IsLegal-nil _) refl) refl

-- A load after a store of 7 that replies the value before it.
illegal-stale_load : IsLegal (initially ((record { 0 = 3 }, 9) ∷ [])) (performed_at 3 (ops.Store 7) 0
    ∷ performed_at 3 ops.Load 9 ∷ []) → ⊥
unfolding value
illegal-stale_load legal = differ 7 9 (omega arith) (sym (legal.replies 1 (performed_at 3 ops.Load 9) refl))

-- Core 0's two loads of line 0 are in its order, and core 1's load between them is in no order with either.
ordered-by_core : IsOrdered (asked_at 0 3 1 0 ∷ asked_at 1 3 0 0 ∷ asked_at 0 4 2 2 ∷ [])
ordered-by_core =
    let a = asked_at 0 3 1 0 in
    let b = asked_at 1 3 0 0 in
    let c = asked_at 0 4 2 2 in
    let before_b : All (λ d. IsAfter d b) (a ∷ []) =
    All-cons (λ d. IsAfter d b) a [] (λ core line. absurd (differ 0 1 (omega arith) (ap (λ n. n.0) core)))
    (All-nil _) in
    let b_before : All (λ d. IsAfter d c) (b ∷ []) =
    All-cons (λ d. IsAfter d c) b [] (λ core line. absurd (differ 0 1 (omega arith) (sym (ap (λ n. n.0) core))))
    (All-nil _) in
    let before_c : All (λ d. IsAfter d c) (a ∷ b ∷ []) =
    All-cons (λ d. IsAfter d c) a (b ∷ []) (λ core line. omega arith) b_before in
    IsOrdered-push (a ∷ b ∷ []) c
    (IsOrdered-push (a ∷ []) b (IsOrdered-push [] a IsOrdered-nil (All-nil _) (omega arith)) before_b (omega arith))
    before_c (omega arith)

-- Two loads of one core on one line, the later asked first.
unordered-overtaken : IsOrdered (asked_at 0 3 1 0 ∷ asked_at 0 4 0 0 ∷ []) → ⊥
unordered-overtaken ordered =
    let late : 1 < 0 = ordered.core_order 0 1 _ _ (omega arith) refl refl refl refl in omega arith

-- A load that was performed before it was asked for.
unordered-early : IsOrdered (asked_at 0 3 0 1 ∷ []) → ⊥
unordered-early ordered =
    let early : 1 ≤ 0 = ordered.since 0 _ refl in omega arith
