-- In a trace without SINCE each entry has 0 as the log's length, so none is wrong by it.
use Rattle.std.proofs.Common.{◌≡◌, ℕ, ◌<◌, List, [], ◌∷◌, ◌++◌, length, map, sym, ap, subst, ◌∙◌, arith}
use Rattle.std.proofs.Common.{append_assoc, length-append, get_or, take, Bool, true, false, suc, zero}
use Rattle.std.specs.Prelude.{codes, if◌then◌else◌}
use Rattle.std.specs.Str.{bytes_eq}
use Rattle.std.proofs.lemmas.Option.{slice_get_within, get_or_from_slice_get}
use Rattle.std.specs.Str.Parse.{digits_value}
use Rattle.address_map.specs.declared.address.WordAddr.{WordAddr}
use Rattle.litmus_text.specs.Form.{Part, key, num, Writes}
use Rattle.litmus_text.specs.Command.{parts_of_op}
use Rattle.slice_log.specs.declared.entry.Entry.{Entry}
use Rattle.trace_check.specs.TraceLine.{line_with_since, parts_of_line}
use Rattle.trace_check.specs.Trace.{AreLines, body_of}
use Rattle.trace_check.specs.Verdict.{IsVerdict, IsWrong}
use Rattle.trace_check.specs.declared.trace_line.Version.TheVariants as versions
use Rattle.trace_check.specs.declared.trace_line.TraceLine.TheVariants as trace_lines
use Rattle.trace_check.specs.declared.verdict.Reason.TheVariants as reasons
use Rattle.trace_check.specs.declared.verdict.Verdict.TheVariants as verdicts
use Rattle.trace_check.proofs.FormLemmas.{Writes-split, word_for_each}

-- the number that the last word writes
last_number : (ws : List (List ℕ)) (last : List ℕ) (ps : List Part) (n : ℕ)
    → Writes (ws ++ last ∷ []) (ps ++ num n ∷ []) → digits_value 10 last ≡ n
last_number ws last ps n written =
    let whole : length (ws ++ last ∷ []) ≡ length (ps ++ num n ∷ []) =
    word_for_each (ws ++ last ∷ []) (ps ++ num n ∷ []) written in
    let same : length ws ≡ length ps = omega (arith, simp length-append at whole) in
    (Writes-split ws (last ∷ []) ps (num n ∷ []) same written).1.1

-- an entry's parts before the last
front_of : Entry → List Part
front_of e = num e.core.0 ∷ num e.seq ∷ num e.tag ∷ (parts_of_op e.op e.word.0 ++ num e.reply ∷ [])

bare_words : (ws : List (List ℕ)) (e : Entry) → Writes (codes "entry" ∷ (ws ++ codes "0" ∷ []))
    (parts_of_line (trace_lines.Entry e)) → e.since ≡ 0
unfolding front_of
bare_words ws e written =
    let parts = ap (λ (tail : List Part). num e.core.0 ∷ num e.seq ∷ num e.tag ∷ tail)
    (sym (append_assoc (parts_of_op e.op e.word.0) (num e.reply ∷ []) (num e.since ∷ []))) in
    sym (last_number ws (codes "0") (front_of e) e.since
    (subst (λ ps. Writes (ws ++ codes "0" ∷ []) ps) parts written.1))

first_named : (b : Bool) (name text : List ℕ) (xs ys : List (List ℕ)) (ps : List Part)
    → Writes (if b then name ∷ xs else name ∷ ys) (key text ∷ ps) → name ≡ text
first_named true name text xs ys ps written = written.0
first_named false name text xs ys ps written = written.0

bare_line : (words : List (List ℕ)) (e : Entry) → Writes (line_with_since versions.WithoutSince words)
    (parts_of_line (trace_lines.Entry e)) → e.since ≡ 0
bare_line [] e written = absurd written
bare_line (name ∷ ws) e written =
    let named = first_named (bytes_eq name (codes "entry")) name (codes "entry") (ws ++ codes "0" ∷ []) ws _ written in
    bare_words ws e (subst (λ n. Writes (line_with_since versions.WithoutSince (n ∷ ws))
    (parts_of_line (trace_lines.Entry e))) named written)

bare_entries : (statements : List (ℕ × List (List ℕ))) (entries : List Entry)
    → AreLines versions.WithoutSince statements (map trace_lines.Entry entries)
    → (k : ℕ) (d : Entry) → k < length entries → (get_or entries k d).since ≡ 0
unfolding AreLines
bare_entries statements [] written k d within = absurd (omega arith)
bare_entries [] (e ∷ entries) written k d within = absurd written
bare_entries (s ∷ statements) (e ∷ entries) written zero d within = bare_line s.1 e written.0.written
bare_entries (s ∷ statements) (e ∷ entries) written (suc k) d within =
    bare_entries statements entries written.1 k d (omega arith)

bare_trace : (statements : List (ℕ × List (List ℕ))) (init : List (WordAddr × ℕ)) (entries : List Entry)
    → AreLines versions.WithoutSince statements (body_of init entries) → (k : ℕ) (d : Entry) → k < length entries
    → (get_or entries k d).since ≡ 0
unfolding AreLines
bare_trace statements [] entries written k d within = bare_entries statements entries written k d within
bare_trace [] (pair ∷ init) entries written k d within = absurd written
bare_trace (s ∷ statements) (pair ∷ init) entries written k d within =
    bare_trace statements init entries written.1 k d within

-- none of its entries is wrong by the log's length
pub none_by_since : (statements : List (ℕ × List (List ℕ))) (init : List (WordAddr × ℕ)) (entries : List Entry)
    (initial : ℕ → ℕ) (k : ℕ)
    → AreLines versions.WithoutSince statements (body_of init entries)
    → IsVerdict initial entries (verdicts.Illegal k reasons.Since) → ⊥
unfolding IsVerdict IsWrong
none_by_since statements init entries initial k written is =
    let e : Entry = is.2.0 in
    let within : k < length entries = slice_get_within entries k e is.2.1 in
    let none : (get_or entries k e).since ≡ 0 = bare_trace statements init entries written k e within in
    let same : get_or entries k e ≡ e = get_or_from_slice_get entries k e e is.2.1 in
    let since : e.since ≡ 0 = ap (λ (x : Entry). x.since) (sym same) ∙ none in
    let late : length (take k entries) < e.since = is.2.2.2 in
    omega (arith, since, late)
