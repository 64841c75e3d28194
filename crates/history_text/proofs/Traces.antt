-- The lines of a text that is known to be a trace, one after another.
use Rattle.std.proofs.Common.{◌≡◌, ℕ, List, [], ◌∷◌, ◌++◌, map, refl, sym, ap, ◌∙◌, subst, append_assoc, append-nil}
use Rattle.std.proofs.lemmas.List.{map-append}
use Rattle.std.specs.Prelude.{codes}
use Rattle.std.specs.Str.Lines.{lines}
use Rattle.litmus_text.specs.Form.{Writes}
use Rattle.litmus_text.specs.Statement.{statements_from}
use Rattle.trace_check.specs.declared.trace_line.Version.{Version}
use Rattle.trace_check.specs.declared.trace_line.Version.TheVariants as versions
use Rattle.trace_check.specs.declared.trace_line.TraceLine.{TraceLine}
use Rattle.trace_check.specs.TraceLine.{IsLineOf, IsNoFirstLine, IsNoLineOf, number_of, parts_of_first}
use Rattle.trace_check.specs.Trace.{AreLines, body_of}
use Rattle.history_text.specs.Histories.{AreTold, line_of}
use Rattle.history_text.specs.Judged.{AreHistoriesOfTrace, AreLinesToldBy, IsSomeTrace}
use Rattle.history_text.specs.declared.histories.Histories.{Histories}
use Rattle.history_text.specs.declared.history_line.HistoryLine.{HistoryLine}
use Rattle.history_text.proofs.HistoryLines.{two_names}

-- ---- the lines after the first

-- of these statements some were read as these lines, and the others are lines too
pub record IsReading (version : Version) (all left : List (ℕ × List (List ℕ))) (read : List TraceLine) : Type 0 where
  pub done : List (ℕ × List (List ℕ))
  pub split : done ++ left ≡ all
  pub written : AreLines version done read
  pub more : List TraceLine
  pub others : AreLines version left more

reading_none : (version : Version) (all : List (ℕ × List (List ℕ))) (lines : List TraceLine)
    → AreLines version all lines → IsReading version all all []
unfolding AreLines
reading_none version all lines are = record { done = []; split = refl; written = tt; more = lines; others = are }

lines_push : (version : Version) (ss : List (ℕ × List (List ℕ))) (ls : List TraceLine) (s : ℕ × List (List ℕ))
    (l : TraceLine) → AreLines version ss ls → IsLineOf version s.1 l → AreLines version (ss ++ s ∷ []) (ls ++ l ∷ [])
unfolding AreLines
lines_push version [] [] s l h k = (k, tt)
lines_push version [] (l' ∷ ls) s l h k = absurd h
lines_push version (s' ∷ ss) [] s l h k = absurd h
lines_push version (s' ∷ ss) (l' ∷ ls) s l h k = (h.0, lines_push version ss ls s l h.1 k)

-- the lines after the next one
record IsBehind (version : Version) (s : ℕ × List (List ℕ)) (left : List (ℕ × List (List ℕ))) : Type 0 where
  pub line : TraceLine
  pub next : IsLineOf version s.1 line
  pub more : List TraceLine
  pub others : AreLines version left more

behind : (version : Version) (s : ℕ × List (List ℕ)) (left : List (ℕ × List (List ℕ))) (more : List TraceLine)
    → AreLines version (s ∷ left) more → IsBehind version s left
unfolding AreLines
behind version s left [] are = absurd are
behind version s left (line ∷ more) are = record { line = line; next = are.0; more = more; others = are.1 }

reading_more : (version : Version) (all left : List (ℕ × List (List ℕ))) (s : ℕ × List (List ℕ))
    (read : List TraceLine) (line : TraceLine) → IsLineOf version s.1 line → IsReading version all (s ∷ left) read
    → IsReading version all left (read ++ line ∷ [])
reading_more version all left s read line is reading =
    let rest = behind version s left reading.more reading.others in
    record {
      done = reading.done ++ s ∷ [];
      split = append_assoc reading.done (s ∷ []) left ∙ reading.split;
      written = lines_push version reading.done read s line reading.written is;
      more = rest.more;
      others = rest.others;
    }

never_refused : (version : Version) (all left : List (ℕ × List (List ℕ))) (s : ℕ × List (List ℕ))
    (read : List TraceLine) → IsNoLineOf version s.1 → IsReading version all (s ∷ left) read → ⊥
never_refused version all left s read refused reading =
    let rest = behind version s left reading.more reading.others in refused rest.line rest.next

reading_all : (version : Version) (all left : List (ℕ × List (List ℕ))) (read : List TraceLine) → left ≡ []
    → IsReading version all left read → AreLines version all read
reading_all version all left read none reading =
    let whole : reading.done ≡ all =
    sym (append-nil reading.done) ∙ sym (ap (λ ss. reading.done ++ ss) none) ∙ reading.split in
    subst (λ ss. AreLines version ss read) whole reading.written

-- .. and these are the histories in them
pub record IsReadingTrace (version : Version) (all left : List (ℕ × List (List ℕ)))
    (histories : Histories) : Type 0 where
  pub read : List TraceLine
  pub reading : IsReading version all left read
  pub are : AreTold histories (map line_of read)

pub trace_none : (version : Version) (all : List (ℕ × List (List ℕ))) (lines : List TraceLine) (histories : Histories)
    → AreLines version all lines → AreTold histories [] → IsReadingTrace version all all histories
trace_none version all lines histories are none =
    record { read = []; reading = reading_none version all lines are; are = none }

pub trace_more : (version : Version) (all left : List (ℕ × List (List ℕ))) (s : ℕ × List (List ℕ))
    (old now : Histories) (line : TraceLine) → IsLineOf version s.1 line
    → ((told : List HistoryLine) → AreTold old told → AreTold now (told ++ line_of line ∷ []))
    → IsReadingTrace version all (s ∷ left) old → IsReadingTrace version all left now
trace_more version all left s old now line is tells reading = record {
  read = reading.read ++ line ∷ [];
  reading = reading_more version all left s reading.read line is reading.reading;
  are = subst (AreTold now) (sym (map-append line_of reading.read (line ∷ []))) (tells (map line_of reading.read) reading.are);
}

pub trace_refused : (version : Version) (all left : List (ℕ × List (List ℕ))) (s : ℕ × List (List ℕ))
    (histories : Histories) → IsNoLineOf version s.1 → IsReadingTrace version all (s ∷ left) histories → ⊥
trace_refused version all left s histories refused reading =
    never_refused version all left s reading.read refused reading.reading

pub trace_all : (version : Version) (all left : List (ℕ × List (List ℕ))) (histories : Histories) → left ≡ []
    → IsReadingTrace version all left histories → AreLinesToldBy version all histories
trace_all version all left histories none reading = record {
  behind = reading.read;
  written = reading_all version all left reading.read none reading.reading;
  are = reading.are;
}

-- ---- the first line

one_number : (word : List ℕ) (a b : Version) → word ≡ number_of a → word ≡ number_of b → a ≡ b
one_number word versions.One versions.One h k = refl
one_number word versions.One versions.Two h k = absurd (two_names word (codes "1") (codes "2") h k refl)
one_number word versions.One versions.WithoutSince h k = absurd (two_names word (codes "1") (codes "no-since") h k refl)
one_number word versions.Two versions.One h k = absurd (two_names word (codes "2") (codes "1") h k refl)
one_number word versions.Two versions.Two h k = refl
one_number word versions.Two versions.WithoutSince h k = absurd (two_names word (codes "2") (codes "no-since") h k refl)
one_number word versions.WithoutSince versions.One h k = absurd (two_names word (codes "no-since") (codes "1") h k refl)
one_number word versions.WithoutSince versions.Two h k = absurd (two_names word (codes "no-since") (codes "2") h k refl)
one_number word versions.WithoutSince versions.WithoutSince h k = refl

one_version : (words : List (List ℕ)) (a b : Version) → Writes words (parts_of_first a)
    → Writes words (parts_of_first b) → a ≡ b
one_version [] a b h k = absurd h
one_version (w ∷ []) a b h k = absurd h.1
one_version (w ∷ v ∷ ws) a b h k = one_number v a b h.1.0 k.1.0

-- a text that is a trace isn't empty
pub says_something : (text : List ℕ) → IsSomeTrace text → statements_from 0 (lines text) ≡ [] → ⊥
says_something text some none =
    let trace = some.1.1.1 in
    let both : [] ≡ (trace.number, trace.first) ∷ trace.rest = sym none ∙ trace.statements in cc

-- the first of its statements is its first line, and the others are lines
record GoesOn (first : List (List ℕ)) (rest : List (ℕ × List (List ℕ))) : Type 0 where
  pub version : Version
  pub begins : Writes first (parts_of_first version)
  pub more : List TraceLine
  pub written : AreLines version rest more

goes_on : (text : List ℕ) (number : ℕ) (first : List (List ℕ)) (rest : List (ℕ × List (List ℕ))) → IsSomeTrace text
    → statements_from 0 (lines text) ≡ (number, first) ∷ rest → GoesOn first rest
goes_on text number first rest some is =
    let trace = some.1.1.1 in
    let more : List TraceLine = body_of some.1.0 some.1.1.0 in
    let same : (number, first) ∷ rest ≡ (trace.number, trace.first) ∷ trace.rest = sym is ∙ trace.statements in
    let here : ℕ × List (List ℕ) = (number, first) in
    let there : ℕ × List (List ℕ) = (trace.number, trace.first) in
    let pair : here ≡ there = cc in
    let same_first : trace.first ≡ first = sym (ap (λ (p : ℕ × List (List ℕ)). p.1) pair) in
    let same_rest : trace.rest ≡ rest = cc in
    record {
      version = some.0;
      begins = subst (λ ws. Writes ws (parts_of_first some.0)) same_first trace.begins;
      more = more;
      written = subst (λ ss. AreLines some.0 ss more) same_rest trace.goes_on.written;
    }

pub never_without_version : (text : List ℕ) (number : ℕ) (first : List (List ℕ)) (rest : List (ℕ × List (List ℕ)))
    → IsSomeTrace text → statements_from 0 (lines text) ≡ (number, first) ∷ rest → IsNoFirstLine first → ⊥
never_without_version text number first rest some is refused =
    let goes = goes_on text number first rest some is in refused goes.version goes.begins

-- the histories in the lines after the first are those in the text
pub trace_told : (text : List ℕ) (number : ℕ) (first : List (List ℕ)) (rest : List (ℕ × List (List ℕ)))
    (version : Version) (histories : Histories) → IsSomeTrace text
    → statements_from 0 (lines text) ≡ (number, first) ∷ rest → Writes first (parts_of_first version)
    → ((some : List TraceLine) → AreLines version rest some → AreLinesToldBy version rest histories)
    → AreHistoriesOfTrace text histories
trace_told text number first rest version histories some is begins told =
    let goes = goes_on text number first rest some is in
    let written : AreLines version rest goes.more =
    subst (λ v. AreLines v rest goes.more) (one_version first goes.version version goes.begins begins) goes.written in
    let lines = told goes.more written in
    record {
      told = map line_of lines.behind;
      tells = record {
        trace = some;
        behind = lines.behind;
        written = record {
          version = version;
          number = number;
          first = first;
          rest = rest;
          statements = is;
          begins = begins;
          written = lines.written;
        };
        is = refl;
      };
      are = lines.are;
    }
