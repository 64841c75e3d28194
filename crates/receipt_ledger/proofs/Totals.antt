-- How totals add up, and what one more request makes of them.
use Rattle.std.proofs.Common.{◌≡◌, ℕ, ◌+◌, List, [], ◌∷◌, ◌++◌, length, length-append, refl, sym, ap, ◌∙◌, arith}
use Rattle.address_map.specs.declared.address.WordAddr.{WordAddr}
use Rattle.slice_log.specs.declared.entry.Entry.{Entry}
use Rattle.receipt_ledger.specs.Sums.{Sums, zeros, plus, sums}
use Rattle.receipt_ledger.specs.Totals.{Totals, totals, nothing, only_accepted, only_handed, together, IsWithin}
use Rattle.receipt_ledger.proofs.Sums.{plus_comm, plus_assoc, plus_zeros, plus_cancel, at_within, sums_append, sums_nil}

-- totals are their three parts
pub totals_same : (a b m n : ℕ) (s t : Sums) → a ≡ b → m ≡ n → s ≡ t
    → record { accepted = a; handed = m; counters = s }
    ≡ (let u : Totals = record { accepted = b; handed = n; counters = t } in u)
totals_same a b m n s t accepted handed counters = rw (accepted, handed, counters) refl

pub together_comm : (t u : Totals) → together t u ≡ together u t
together_comm t u =
    totals_same (t.accepted + u.accepted) (u.accepted + t.accepted) (t.handed + u.handed) (u.handed + t.handed)
    (plus t.counters u.counters) (plus u.counters t.counters) (omega arith) (omega arith)
    (plus_comm t.counters u.counters)

pub together_assoc : (t u v : Totals) → together (together t u) v ≡ together t (together u v)
together_assoc t u v =
    totals_same (t.accepted + u.accepted + v.accepted) (t.accepted + (u.accepted + v.accepted))
    (t.handed + u.handed + v.handed) (t.handed + (u.handed + v.handed))
    (plus (plus t.counters u.counters) v.counters) (plus t.counters (plus u.counters v.counters))
    (omega arith) (omega arith) (plus_assoc t.counters u.counters v.counters)

pub together_nothing : (t : Totals) → together t nothing ≡ t
together_nothing t =
    totals_same (t.accepted + 0) t.accepted (t.handed + 0) t.handed (plus t.counters zeros) t.counters
    (omega arith) (omega arith) (plus_zeros t.counters)

pub together_cancel : (t u v : Totals) → together t v ≡ together u v → t ≡ u
together_cancel t u v h =
    totals_same t.accepted u.accepted t.handed u.handed t.counters u.counters
    (omega (arith, ap (λ (w : Totals). w.accepted) h)) (omega (arith, ap (λ (w : Totals). w.handed) h))
    (plus_cancel t.counters u.counters v.counters (ap (λ (w : Totals). w.counters) h))

-- what is added is no more than the whole
pub within_together : (t u : Totals) → IsWithin t (together u t)
within_together t u = record {
  accepted = omega arith;
  handed = omega arith;
  counters = λ place. at_within t.counters u.counters place;
}

-- ---- requests and entries

pub totals_nil : (words : List WordAddr) → totals words 0 [] ≡ nothing
totals_nil words = totals_same 0 0 0 0 (sums words []) zeros refl refl (sums_nil words)

pub totals_append : (words : List WordAddr) (n m : ℕ) (es fs : List Entry)
    → totals words (n + m) (es ++ fs) ≡ together (totals words n es) (totals words m fs)
totals_append words n m es fs =
    totals_same (n + m) (n + m) (length (es ++ fs)) (length es + length fs)
    (sums words (es ++ fs)) (plus (sums words es) (sums words fs))
    refl (length-append es fs) (sums_append words es fs)

-- m requests more are accepted
pub totals_accepted : (words : List WordAddr) (n m : ℕ) (es : List Entry)
    → totals words (n + m) es ≡ together (totals words n es) (only_accepted m)
totals_accepted words n m es =
    totals_same (n + m) (n + m) (length es) (length es + 0) (sums words es) (plus (sums words es) zeros)
    refl (omega arith) (sym (plus_zeros (sums words es)))

-- one entry more is handed out, the last
pub totals_push : (words : List WordAddr) (n : ℕ) (es : List Entry) (e : Entry)
    → totals words n (es ++ e ∷ []) ≡ together (totals words n es) (only_handed words e)
totals_push words n es e =
    totals_same n (n + 0) (length (es ++ e ∷ [])) (length es + 1)
    (sums words (es ++ e ∷ [])) (plus (sums words es) (sums words (e ∷ [])))
    (omega arith) (length-append es (e ∷ [])) (sums_append words es (e ∷ []))

-- or the first
pub totals_cons : (words : List WordAddr) (n : ℕ) (es : List Entry) (e : Entry)
    → totals words n (e ∷ es) ≡ together (totals words n es) (only_handed words e)
totals_cons words n es e =
    totals_same n (n + 0) (length (e ∷ es)) (length es + 1)
    (sums words (e ∷ es)) (plus (sums words es) (sums words (e ∷ [])))
    (omega arith) (omega arith) (sums_append words (e ∷ []) es ∙ plus_comm (sums words (e ∷ [])) (sums words es))
