-- A log with an invalid entry isn't both legal and ordered, so no log has two verdicts.
use Rattle.std.proofs.Common.{◌≡◌, ℕ, ◌<◌, ◌≤◌, List, length, take, get_or, Some, refl, sym, ap, ◌∙◌, arith, subst, inl}
use Rattle.std.proofs.Common.{inr}
use Rattle.std.specs.Prelude.{slice_get}
use Rattle.std.proofs.lemmas.List.{get_or-take, length-take-le, take-take}
use Rattle.std.proofs.lemmas.Bool.{cases_lt}
use Rattle.std.proofs.lemmas.Option.{slice_get_within, slice_get-get_or, get_or_from_slice_get}
use Rattle.slice_log.specs.Log.{IsLegal, IsOrdered, IsAfter}
use Rattle.slice_log.specs.declared.entry.Entry.{Entry}
use Rattle.trace_check.specs.declared.verdict.Reason.{Reason}
use Rattle.trace_check.specs.declared.verdict.Reason.TheVariants as reasons
use Rattle.trace_check.specs.declared.verdict.Verdict.{Verdict}
use Rattle.trace_check.specs.declared.verdict.Verdict.TheVariants as verdicts
use Rattle.trace_check.specs.Verdict.{IsVerdict, IsWrong, IsInOrder}

-- in an ordered log each entry is in order after those before it
in_order_at : (entries : List Entry) (k : ℕ) (e : Entry) → slice_get entries k ≡ Some e → IsOrdered entries
    → IsInOrder (take k entries) e
in_order_at entries k e at ordered = λ j d within.
    let small : k < length entries = slice_get_within entries k e at in
    let long : length (take k entries) ≡ k = length-take-le k entries (omega arith) in
    let before : j < k = omega arith in
    let same : get_or (take k entries) j d ≡ get_or entries j d = get_or-take k entries j d before in
    subst (λ x. IsAfter x e) (sym same)
    (ordered.core_order j k (get_or entries j d) e before (slice_get-get_or entries j d (omega arith)) at)

-- a log with a wrong entry isn't legal, or isn't ordered
wrong_breaks : (initial : ℕ → ℕ) (entries : List Entry) (k : ℕ) (e : Entry) (reason : Reason)
    → slice_get entries k ≡ Some e
    → IsWrong initial (take k entries) e reason → IsLegal initial entries → IsOrdered entries → ⊥
unfolding IsWrong
wrong_breaks initial entries k e reasons.Reply at wrong legal ordered = wrong (legal.replies k e at)
wrong_breaks initial entries k e reasons.Order at wrong legal ordered = wrong.1 (in_order_at entries k e at ordered)
wrong_breaks initial entries k e reasons.Since at wrong legal ordered =
    let small : k < length entries = slice_get_within entries k e at in
    let long : length (take k entries) ≡ k = length-take-le k entries (omega arith) in
    let late : length (take k entries) < e.since = wrong.2 in
    let early : e.since ≤ k = ordered.since k e at in
    omega arith

-- the verdict on a legal and ordered log
verdict_of_legal : (initial : ℕ → ℕ) (entries : List Entry) (verdict : Verdict) → IsVerdict initial entries verdict
    → IsLegal initial entries → IsOrdered entries → verdict ≡ verdicts.Legal (length entries)
unfolding IsVerdict
verdict_of_legal initial entries (verdicts.Legal n) is legal ordered = ap verdicts.Legal is.0
verdict_of_legal initial entries (verdicts.Illegal k reason) is legal ordered =
    absurd (wrong_breaks initial entries k is.2.0 reason is.2.1 is.2.2 legal ordered)

one_reason : (initial : ℕ → ℕ) (log : List Entry) (e : Entry) (r s : Reason) → IsWrong initial log e r
    → IsWrong initial log e s → r ≡ s
unfolding IsWrong
one_reason initial log e reasons.Reply reasons.Reply w v = refl
one_reason initial log e reasons.Reply reasons.Order w v = absurd (w v.0)
one_reason initial log e reasons.Reply reasons.Since w v = absurd (w v.0)
one_reason initial log e reasons.Order reasons.Reply w v = absurd (v w.0)
one_reason initial log e reasons.Order reasons.Order w v = refl
one_reason initial log e reasons.Order reasons.Since w v = absurd (w.1 v.1)
one_reason initial log e reasons.Since reasons.Reply w v = absurd (v w.0)
one_reason initial log e reasons.Since reasons.Order w v = absurd (v.1 w.1)
one_reason initial log e reasons.Since reasons.Since w v = refl

-- no entry before the first invalid one is invalid
none_earlier : (initial : ℕ → ℕ) (entries : List Entry) (k l : ℕ) (d e : Entry) (r : Reason) → k < l
    → slice_get entries k ≡ Some d
    → slice_get entries l ≡ Some e → IsWrong initial (take k entries) d r → IsLegal initial (take l entries)
    → IsOrdered (take l entries) → ⊥
none_earlier initial entries k l d e r before at_k at_l wrong legal ordered =
    let small : l < length entries = slice_get_within entries l e at_l in
    let long : length (take l entries) ≡ l = length-take-le l entries (omega arith) in
    let there : slice_get (take l entries) k ≡ Some d =
    slice_get-get_or (take l entries) k d (omega arith)
    ∙ ap Some (get_or-take l entries k d before ∙ get_or_from_slice_get entries k d d at_k) in
    wrong_breaks initial (take l entries) k d r there
    (subst (λ es. IsWrong initial es d r) (sym (take-take k l entries (omega arith))) wrong) legal ordered

same_illegal : (initial : ℕ → ℕ) (entries : List Entry) (k l : ℕ) (r s : Reason) → k ≡ l
    → IsVerdict initial entries (verdicts.Illegal k r)
    → IsVerdict initial entries (verdicts.Illegal l s) → verdicts.Illegal k r ≡ verdicts.Illegal l s
unfolding IsVerdict
same_illegal initial entries k l r s same a b =
    let d : Entry = a.2.0 in
    let e : Entry = b.2.0 in
    let at_k : slice_get entries k ≡ Some d = a.2.1 in
    let at_l : slice_get entries l ≡ Some e = b.2.1 in
    let entry : e ≡ d = cc in
    let wrong : IsWrong initial (take k entries) d s =
    subst (λ n. IsWrong initial (take n entries) d s) (sym same)
    (subst (λ x. IsWrong initial (take l entries) x s) entry b.2.2) in
    let reason = one_reason initial (take k entries) d r s a.2.2 wrong in
    cc (same, reason)

-- entries have one verdict
pub one_verdict : (initial : ℕ → ℕ) (entries : List Entry) (a b : Verdict) → IsVerdict initial entries a
    → IsVerdict initial entries b → a ≡ b
unfolding IsVerdict
one_verdict initial entries (verdicts.Legal n) b is_a is_b =
    ap verdicts.Legal is_a.0 ∙ sym (verdict_of_legal initial entries b is_b is_a.1 is_a.2)
one_verdict initial entries (verdicts.Illegal k r) (verdicts.Legal n) is_a is_b =
    verdict_of_legal initial entries (verdicts.Illegal k r) is_a is_b.1 is_b.2 ∙ sym (ap verdicts.Legal is_b.0)
one_verdict initial entries (verdicts.Illegal k r) (verdicts.Illegal l s) is_a is_b =
    elim (cases_lt k l) [
      | inl below ↦ absurd
          (none_earlier initial entries k l is_a.2.0 is_b.2.0 r below is_a.2.1 is_b.2.1 is_a.2.2 is_b.0 is_b.1)
      | inr above ↦ elim (cases_lt l k) [
        | inl under ↦ absurd
            (none_earlier initial entries l k is_b.2.0 is_a.2.0 s under is_b.2.1 is_a.2.1 is_b.2.2 is_a.0 is_a.1)
        | inr over ↦ same_illegal initial entries k l r s (omega arith) is_a is_b
      ]
    ]
