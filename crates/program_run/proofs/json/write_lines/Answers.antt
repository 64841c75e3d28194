use Rattle.std.proofs.Common.{◌≡◌, ◌≢◌, ◌==◌, ◌∷◌, ◌+◌, ◌∙◌, ℕ, Bool, List, ap, arith, drop, false, length, map, not}
use Rattle.std.proofs.Common.{refl, sym, true, cond}
use Rattle.std.specs.Prelude.{filter}
use Rattle.std.specs.List.{range_with_len}
use Rattle.std.proofs.lemmas.Bool.{ne_eqb}
use Rattle.std.proofs.lemmas.List.FromFn.{length-range_with_len}
use Rattle.litmus_text.proofs.Pieces.{last_piece}
use Rattle.program_run.specs.declared.tally.Counts.{Counts}
use Rattle.litmus_text.specs.JsonList.{with_commas_from}
use Rattle.program_run.specs.Json.{is_asked, line_object, objects_of_lines}
use Rattle.program_run.specs.Tally.{counts_at, requests_of}
use Rattle.litmus_text.proofs.Commas.{at_range, next_text, skip_text}
use Rattle.program_run.proofs.json.write_lines.Goals as goal

-- the texts of a line and of those after it, by whether the line was asked for
texts_by : (first : Bool) (counts : List Counts) (line : ℕ) (rest : List ℕ) (asked : Bool)
    → is_asked counts line ≡ asked
    → with_commas_from first (objects_of_lines counts (line ∷ rest))
    ≡ with_commas_from first (map (λ l. line_object l (counts_at counts l))
    (cond asked (line ∷ filter (is_asked counts) rest) (filter (is_asked counts) rest)))
texts_by first counts line rest asked is =
    ap (λ b. with_commas_from first (map (λ l. line_object l (counts_at counts l))
    (cond b (line ∷ filter (is_asked counts) rest) (filter (is_asked counts) rest)))) is

pub loop-line-preserved-then-requests-eq0 : goal.loop-line-preserved-then-requests-eq0
loop-line-preserved-then-requests-eq0 g c = λ new rest.
    let counts = c.args.lines.now in
    let all = λ (first : Bool) (lines : List ℕ). with_commas_from first (objects_of_lines counts lines) in
    let lines = range_with_len 0 (length counts) in
    let line = c.loop-line.line in
    let first = c.loop-line.is_first in
    let long = length-range_with_len 0 (length counts) in
    let below = c.loop-line-test.true in
    let none : requests_of (counts_at counts line) ≡ 0 = sym c.requests.ensures ∙ c.if-requests-eq0.true in
    let unasked : is_asked counts line ≡ false = ap (λ n. not (n == 0)) none in
    c.loop-line.invariant new
    (skip_text g.W.Write.write_str_gives all first lines line 0 (omega (arith, long, below))
    (ap (λ (k : ℕ). all first (k ∷ drop (line + 1) lines)) (at_range (length counts) line below)
    ∙ texts_by first counts line (drop (line + 1) lines) false unasked)
    _ new rest)

pub loop-line-preserved : goal.loop-line-preserved
loop-line-preserved g c = λ new rest.
    let counts = c.args.lines.now in
    let all = λ (first : Bool) (lines : List ℕ). with_commas_from first (objects_of_lines counts lines) in
    let lines = range_with_len 0 (length counts) in
    let line = c.loop-line.line in
    let first = c.loop-line.is_first in
    let long = length-range_with_len 0 (length counts) in
    let below = c.loop-line-test.true in
    let some : requests_of (counts_at counts line) ≢ 0 = λ none. c.if-requests-eq0.false (c.requests.ensures ∙ none) in
    let asked : is_asked counts line ≡ true = ap not (ne_eqb (requests_of (counts_at counts line)) 0 some) in
    c.loop-line.invariant new
    (next_text g.W.Write.write_str_gives all first lines line 0 (line_object line (counts_at counts line))
    (omega (arith, long, below))
    (ap (λ (k : ℕ). all first (k ∷ drop (line + 1) lines)) (at_range (length counts) line below)
    ∙ texts_by first counts line (drop (line + 1) lines) true asked)
    _ _ _ new c.in_ok-write_comma.ensures c.in_ok-write_line.ensures rest)

pub returns : goal.returns
returns g c =
    let counts = c.args.lines.now in
    let all = λ (lines : List ℕ). with_commas_from c.loop-line.is_first (objects_of_lines counts lines) in
    let long = length-range_with_len 0 (length counts) in
    let end = c.loop-line-test.false in
    c.loop-line.invariant _
    (last_piece g.W.Write.write_str_gives all (range_with_len 0 (length counts)) c.loop-line.line
    (omega (arith, long, end)) refl _)
