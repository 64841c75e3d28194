-- If a line can't come next, the text is no trace.
use Rattle.std.proofs.Common.{◌≡◌, ℕ, ◌+◌, ◌<◌, List, [], ◌∷◌, ◌++◌, length, get_or, Option, Some, None, map, refl, sym}
use Rattle.std.proofs.Common.{ap, subst, ◌∙◌, arith, inr, length-append, append_assoc}
use Rattle.std.specs.Prelude.{IfSome}
use Rattle.std.specs.Str.Lines.{lines}
use Rattle.std.proofs.Math.Seq.{get_or-append_seam}
use Rattle.std.proofs.lemmas.List.{map-append}
use Rattle.address_map.specs.declared.address.WordAddr.{WordAddr}
use Rattle.address_map.specs.Words.{IsAscendingBy}
use Rattle.slice_log.specs.declared.entry.Entry.{Entry}
use Rattle.litmus_text.specs.Fault.{IsAtLine, IsFirstFault}
use Rattle.litmus_text.specs.Form.{Writes}
use Rattle.litmus_text.specs.Statement.{statements_from}
use Rattle.litmus_text.specs.declared.fault.TextFault.{TextFault}
use Rattle.litmus_text.specs.declared.fault.TextFault.TheVariants as text_faults
use Rattle.trace_check.specs.declared.check.Check.{Check}
use Rattle.trace_check.specs.declared.trace_line.Version.{Version}
use Rattle.trace_check.specs.declared.trace_line.TraceLine.{TraceLine}
use Rattle.trace_check.specs.declared.trace_line.TraceLine.TheVariants as trace_lines
use Rattle.trace_check.specs.TraceLine.{IsLineOf, parts_of_first, parts_of_line}
use Rattle.trace_check.specs.Trace.{AreLines, IsFaultAt, body_of, AreTrace, AreNoTrace, AreSomeTrace, IsNoTrace}
use Rattle.trace_check.specs.SoFar.{IsLastNamed, MayBegin, Stands}
use Rattle.trace_check.specs.Trace.{IsNextWord, IsNoMemoryOrLine, IsNoNextLine, IsReading, MayFollow}
use Rattle.trace_check.proofs.ReadingLemmas.{one_version, one_line, same_lines, not_both}

-- the word and the value that a line names, if it names them
abbrev pub named : TraceLine → Option (WordAddr × ℕ)
named (trace_lines.Init word value) = Some (word, value)
named (trace_lines.Entry e) = None

-- if a line that the words write may come next, so may a word's value that they write
pub may_begin : (check : Check) (ws : List (List ℕ)) (word : WordAddr) (value : ℕ) (line : TraceLine)
    → Writes ws (parts_of_line (trace_lines.Init word value)) → Writes ws (parts_of_line line) → MayFollow check line
    → MayBegin check.trace word
unfolding MayFollow
may_begin check ws word value (trace_lines.Entry e) h k may =
    absurd (not_both word value e (one_line ws (trace_lines.Init word value) (trace_lines.Entry e) h k))
may_begin check ws word value (trace_lines.Init w v) h k may =
    let both : trace_lines.Init word value ≡ trace_lines.Init w v =
    one_line ws (trace_lines.Init word value) (trace_lines.Init w v) h k in
    let same : word ≡ w = cc in
    subst (MayBegin check.trace) (sym same) may

-- lines that are before a statement's, the line that it writes, and those after it
record Parts (version : Version) (done : List (ℕ × List (List ℕ))) (s : ℕ × List (List ℕ))
    (ls : List TraceLine) : Type 0 where
  before : List TraceLine
  line : TraceLine
  after : List TraceLine
  shape : ls ≡ before ++ line ∷ after
  first : AreLines version done before
  next : IsLineOf version s.1 line

parts_of : (version : Version) (done left : List (ℕ × List (List ℕ))) (s : ℕ × List (List ℕ)) (ls : List TraceLine)
    → AreLines version (done ++ s ∷ left) ls → Parts version done s ls
unfolding AreLines
parts_of version [] left s [] h = absurd h
parts_of version [] left s (l ∷ ls) h =
    record { before = []; line = l; after = ls; shape = refl; first = tt; next = h.0 }
parts_of version (d ∷ done) left s [] h = absurd h
parts_of version (d ∷ done) left s (l ∷ ls) h =
    let r = parts_of version done left s ls h.1 in
    record {
      before = l ∷ r.before;
      line = r.line;
      after = r.after;
      shape = ap (λ xs. l ∷ xs) r.shape;
      first = (h.0, r.first);
      next = r.next;
    }

-- what lines of a trace name
abbrev nothing : Entry → Option (WordAddr × ℕ)
nothing e = None

abbrev some : WordAddr × ℕ → Option (WordAddr × ℕ)
some pair = Some pair

named_entries : (entries : List Entry) → map named (map trace_lines.Entry entries) ≡ map nothing entries
named_entries [] = refl
named_entries (e ∷ entries) = ap (λ xs. None ∷ xs) (named_entries entries)

named_lines : (init : List (WordAddr × ℕ)) (entries : List Entry)
    → map named (body_of init entries) ≡ map some init ++ map nothing entries
named_lines [] entries = named_entries entries
named_lines (p ∷ init) entries = ap (λ xs. Some p ∷ xs) (named_lines init entries)

-- after an entry no line names a word
none_named : (a b : List Entry) (p : WordAddr × ℕ) (rest : List (Option (WordAddr × ℕ)))
    → map nothing b ≡ map nothing a ++ Some p ∷ rest → ⊥
none_named [] [] p rest h = cc
none_named [] (e ∷ b) p rest h = cc
none_named (d ∷ a) [] p rest h = cc
none_named (d ∷ a) (e ∷ b) p rest h = none_named a b p rest (cc)

-- a word that is named next is named after those before it, and before all entries
record IsNext (init all : List (WordAddr × ℕ)) (entries : List Entry) (p : WordAddr × ℕ) : Type 0 where
  early : entries ≡ []
  more : List (WordAddr × ℕ)
  shape : all ≡ init ++ p ∷ more

next_named : (init all : List (WordAddr × ℕ)) (a b : List Entry) (p : WordAddr × ℕ)
    (rest : List (Option (WordAddr × ℕ)))
    → map some all ++ map nothing b ≡ (map some init ++ map nothing a) ++ Some p ∷ rest → IsNext init all a p
next_named [] [] a b p rest h = absurd (none_named a b p rest h)
next_named [] (q ∷ all) [] b p rest h =
    record { early = refl; more = all; shape = let same : q ≡ p = cc in ap (λ x. x ∷ all) same }
next_named [] (q ∷ all) (e ∷ a) b p rest h = let other : Some q ≡ None = cc in cc
next_named (r ∷ init) [] a b p rest h = absurd (none_named [] b r ((map some init ++ map nothing a) ++ Some p ∷ rest) h)
next_named (r ∷ init) (q ∷ all) a b p rest h =
    let tail : map some all ++ map nothing b ≡ (map some init ++ map nothing a) ++ Some p ∷ rest = cc in
    let same : q ≡ r = cc in
    let n = next_named init all a b p rest tail in
    let behind : all ≡ init ++ p ∷ n.more = n.shape in
    let shape : q ∷ all ≡ r ∷ (init ++ p ∷ n.more) = cc in
    record { early = n.early; more = n.more; shape = shape }

-- the word after the last that was named is above it
last_below : (last : Option WordAddr) (init more : List (WordAddr × ℕ)) (p : WordAddr × ℕ) → IsLastNamed last init
    → IsAscendingBy (λ pair. pair.0.0) (init ++ p ∷ more) → IfSome last (λ l. l.0 < p.0.0)
last_below None init more p is ascending = tt
last_below (Some l) init more p is ascending =
    let before : List (WordAddr × ℕ) = is.0 in
    let q : WordAddr × ℕ = (l, is.1.0) in
    let shape : init ++ p ∷ more ≡ before ++ q ∷ (p ∷ more) = ap (λ xs. xs ++ p ∷ more) is.1.1
    ∙ append_assoc before (q ∷ []) (p ∷ more) in
    let long : length (init ++ p ∷ more) ≡ length before + (2 + length more) = ap length shape
    ∙ simp length-append (omega arith) in
    let count : length init ≡ length before + 1 = ap length is.1.1 ∙ simp length-append refl in
    let under = ascending (length before) (length init) p (omega arith) (omega arith) in
    let at_last : get_or (init ++ p ∷ more) (length before) p ≡ q = ap (λ xs. get_or xs (length before) p) shape
    ∙ get_or-append_seam before q (p ∷ more) p in
    let at_next : get_or (init ++ p ∷ more) (length init) p ≡ p = get_or-append_seam init p more p in
    rw (at_last, at_next) at under

-- the line of a trace after those that were read may come next
may_follow : (check : Check) (init all : List (WordAddr × ℕ)) (entries more : List Entry)
    (before after : List TraceLine) (line : TraceLine)
    → Stands check.trace init entries → IsAscendingBy (λ pair. pair.0.0) all
    → map named before ≡ map named (body_of init entries)
    → body_of all more ≡ before ++ line ∷ after → MayFollow check line
unfolding MayFollow
may_follow check init all entries more before after (trace_lines.Entry e) stands ascending same shape = tt
may_follow check init all entries more before after (trace_lines.Init word value) stands ascending same shape =
    let names : map named (body_of all more) ≡ map named before ++ Some (word, value) ∷ map named after =
    ap (map named) shape ∙ map-append named before (trace_lines.Init word value ∷ after) in
    let next = next_named init all entries more (word, value) (map named after)
    (sym (named_lines all more) ∙ names
    ∙ ap (λ xs. xs ++ Some (word, value) ∷ map named after) (same ∙ named_lines init entries)) in
    record {
      early = stands.count ∙ ap length next.early;
      above = last_below check.trace.last init next.more (word, value) stands.last
          (subst (λ xs. IsAscendingBy (λ pair. pair.0.0) xs) next.shape ascending);
    }

-- if the next statement writes no line that may come next, all statements are no trace
pub no_trace : (check : Check) (version : Version) (all left : List (ℕ × List (List ℕ))) (s : ℕ × List (List ℕ))
    → check.version ≡ version
    → IsReading check all (s ∷ left) → IsNoNextLine check s.1 → AreNoTrace version all
no_trace check version all left s same reading none some =
    let init = some.0 in
    let entries = some.1.0 in
    let trace = some.1.1 in
    let written : AreLines check.version (reading.done ++ s ∷ left) (body_of init entries) =
    rw (same, reading.split) trace.written in
    let parts = parts_of check.version reading.done left s (body_of init entries) written in
    let names = ap (map named)
    (same_lines check.version reading.done parts.before
    (body_of reading.init reading.entries) parts.first reading.written) in
    none parts.line parts.next
    (may_follow check reading.init init reading.entries entries parts.before parts.after parts.line reading.stands
    trace.ascending names parts.shape)

-- .. and the statement is the first invalid one, since those before it are lines of a trace
pub first_fault : (check : Check) (version : Version) (all left : List (ℕ × List (List ℕ)))
    (number : ℕ) (words : List (List ℕ))
    → check.version ≡ version → IsReading check all ((number, words) ∷ left) → IsNoNextLine check words
    → IsFirstFault (AreSomeTrace version) all number
first_fault check version all left number words same reading none = record {
  before = reading.done;
  words = words;
  behind = left;
  stands = sym reading.split;
  sound = (
    reading.init,
    (
      reading.entries,
      record { written = rw same at reading.written; ascending = reading.stands.ascending },
    ),
  );
  refused = no_trace check version (reading.done ++ (number, words) ∷ []) [] (number, words) same
      (record {
        init = reading.init;
        entries = reading.entries;
        done = reading.done;
        split = refl;
        written = reading.written;
        stands = reading.stands;
      }) none;
}

-- if a fault names the line of a refused statement, it names the first invalid one
pub at_first_fault : (check : Check) (version : Version) (all left : List (ℕ × List (List ℕ))) (number : ℕ)
    (words : List (List ℕ)) (fault : TextFault) → check.version ≡ version → IsReading check all ((number, words) ∷ left)
    → IsNoMemoryOrLine (IsNoNextLine check words) fault → IsAtLine (λ n. n ≡ number) fault
    → IsAtLine (IsFirstFault (AreSomeTrace version) all) fault
at_first_fault check version all left number words text_faults.NoMemory same reading none at = tt
at_first_fault check version all left number words (text_faults.Line n fault) same reading none at =
    subst (IsFirstFault (AreSomeTrace version) all) (sym at)
    (first_fault check version all left number words same reading none)
at_first_fault check version all left number words (text_faults.Config error) same reading none at = tt
at_first_fault check version all left number words text_faults.CannotWrite same reading none at = tt

-- a text with a first line, and no trace after it, is no trace
pub no_text : (text : List ℕ) (number : ℕ) (first : List (List ℕ)) (rest : List (ℕ × List (List ℕ))) (version : Version)
    → statements_from 0 (lines text) ≡ (number, first) ∷ rest → Writes first (parts_of_first version)
    → AreNoTrace version rest → IsNoTrace text
no_text text number first rest version is begins none other init entries trace =
    let same : (number, first) ∷ rest ≡ (trace.number, trace.first) ∷ trace.rest = sym is ∙ trace.statements in
    let here : ℕ × List (List ℕ) = (number, first) in
    let there : ℕ × List (List ℕ) = (trace.number, trace.first) in
    let pair : here ≡ there = cc in
    let same_first : first ≡ trace.first = ap (λ (p : ℕ × List (List ℕ)). p.1) pair in
    let same_rest : trace.rest ≡ rest = cc in
    let one : other ≡ version =
    one_version trace.first other version trace.begins
    (subst (λ ws. Writes ws (parts_of_first version)) same_first begins) in
    none (
      init,
      (
        entries,
        subst (λ ss. AreTrace version init entries ss) same_rest
            (subst (λ v. AreTrace v init entries trace.rest) one trace.goes_on),
      ),
    )

-- an invalid line after the first is the text's
pub at_fault : (statements rest : List (ℕ × List (List ℕ))) (number : ℕ) (first : List (List ℕ)) (version : Version)
    (fault : TextFault) → statements ≡ (number, first) ∷ rest → Writes first (parts_of_first version)
    → IsAtLine (IsFirstFault (AreSomeTrace version) rest) fault → IsAtLine (IsFaultAt statements) fault
at_fault statements rest number first version text_faults.NoMemory is begins at = tt
at_fault statements rest number first version (text_faults.Line n fault) is begins at =
    subst (λ ss. IsFaultAt ss n) (sym is) (inr (version, begins, at))
at_fault statements rest number first version (text_faults.Config error) is begins at = tt
at_fault statements rest number first version text_faults.CannotWrite is begins at = tt

-- why a text is refused may be replaced by something weaker
pub IsNoMemoryOrLine-weaker : (P Q : Type 0) (fault : TextFault) → (P → Q) → IsNoMemoryOrLine P fault
    → IsNoMemoryOrLine Q fault
IsNoMemoryOrLine-weaker P Q text_faults.NoMemory f h = tt
IsNoMemoryOrLine-weaker P Q (text_faults.Line number fault) f h = f h
IsNoMemoryOrLine-weaker P Q (text_faults.Config error) f h = absurd h
IsNoMemoryOrLine-weaker P Q text_faults.CannotWrite f h = absurd h

-- ---- what is wrong with the invalid line

above_last : (last : Option WordAddr) (init : List (WordAddr × ℕ)) (word : WordAddr) → IsLastNamed last init
    → ((before : List (WordAddr × ℕ)) (l : WordAddr) (value : ℕ) → init ≡ before ++ (l, value) ∷ [] → l.0 < word.0)
    → IfSome last (λ l. l.0 < word.0)
above_last None init word is above = tt
above_last (Some l) init word is above = above is.0 l is.1.0 is.1.1

-- a word that may be given a value after what was read may be given one next
next_word : (check : Check) (init : List (WordAddr × ℕ)) (entries : List Entry) (word : WordAddr)
    → Stands check.trace init entries → IsNextWord init entries word → MayBegin check.trace word
next_word check init entries word stands next = record {
  early = stands.count ∙ ap length next.early;
  above = above_last check.trace.last init word stands.last next.above;
}
