-- What a check knows of the entries, and of the lines that it read.
use Rattle.std.proofs.Common.{◌≡◌, ℕ, ◌<◌, ◌≤◌, List, [], ◌∷◌, ◌++◌, length, Option, Some, None, refl, ◌∙◌, ◌+◌, arith}
use Rattle.std.proofs.Common.{subst, append_assoc, append-nil, length-append}
use Rattle.std.specs.Prelude.{slice_get, All, IfSome}
use Rattle.std.proofs.Math.Seq.{get_or-append_seam}
use Rattle.std.proofs.lemmas.List.{take-append-le, take_at, map-append, get_or_append_left}
use Rattle.std.proofs.lemmas.List.Elements.{All-nil, All-push}
use Rattle.std.proofs.lemmas.List.Quantifiers.{all_pairs_push}
use Rattle.std.proofs.lemmas.Option.{slice_get_within}
use Rattle.address_map.specs.declared.address.WordAddr.{WordAddr}
use Rattle.address_map.specs.Words.{IsAscendingBy}
use Rattle.slice_log.specs.Log.{initially}
use Rattle.slice_log.specs.declared.entry.Entry.{Entry}
use Rattle.trace_check.specs.declared.judge.Judge.{Judge}
use Rattle.trace_check.specs.declared.check.Check.{Check}
use Rattle.trace_check.specs.declared.trace_judge.TraceJudge.{TraceJudge}
use Rattle.trace_check.specs.declared.verdict.Reason.{Reason}
use Rattle.trace_check.specs.declared.verdict.Verdict.TheVariants as verdicts
use Rattle.trace_check.specs.declared.trace_line.Version.{Version}
use Rattle.trace_check.specs.declared.trace_line.Version.TheVariants as versions
use Rattle.trace_check.specs.declared.trace_line.TraceLine.{TraceLine}
use Rattle.trace_check.specs.declared.trace_line.TraceLine.TheVariants as trace_lines
use Rattle.trace_check.specs.Verdict.{IsVerdict, IsWrong}
use Rattle.trace_check.specs.Judge.{Knows}
use Rattle.trace_check.specs.TraceLine.{IsLineOf, cores_of}
use Rattle.trace_check.specs.SoFar.{IsLastNamed, IsSoFar, MayBegin, Stands}
use Rattle.trace_check.specs.Trace.{AreLines, body_of, IsReading}
use Rattle.trace_check.proofs.SeqLemmas.{slice_get-append, slice_get-last}

-- the first invalid entry stays so, whatever comes after it
still_illegal : (initial : ℕ → ℕ) (entries : List Entry) (e : Entry) (k : ℕ) (reason : Reason)
    → IsVerdict initial entries (verdicts.Illegal k reason)
    → IsVerdict initial (entries ++ e ∷ []) (verdicts.Illegal k reason)
unfolding IsVerdict
still_illegal initial entries e k reason h =
    let x : Entry = h.2.0 in
    let at : slice_get entries k ≡ Some x = h.2.1 in
    let within : k < length entries = slice_get_within entries k x at in
    rw (take-append-le k entries (e ∷ []) (omega arith))
    (h.0, h.1, (x, slice_get-append entries (e ∷ []) k x at, h.2.2))

-- an invalid entry after a log
first_illegal : (judge : Judge) (initial : ℕ → ℕ) (entries : List Entry) (e : Entry) (k : ℕ) (reason : Reason)
    → k ≡ length entries
    → Knows judge initial entries → IsWrong initial entries e reason
    → IsVerdict initial (entries ++ e ∷ []) (verdicts.Illegal k reason)
unfolding IsVerdict
first_illegal judge initial entries e k reason here knows wrong =
    rw here (rw (take_at entries (e ∷ []) (length entries) refl)
    (knows.legal, knows.ordered, (e, slice_get-last entries e, wrong)))

pub step_behind : (judge : Judge) (initial : ℕ → ℕ) (entries : List Entry) (e : Entry) (fault : Option (ℕ × Reason))
    (f : ℕ × Reason)
    → fault ≡ Some f → IsSoFar judge initial entries fault → IsSoFar judge initial (entries ++ e ∷ []) fault
unfolding IsSoFar
step_behind judge initial entries e fault f is h = rw is (still_illegal initial entries e f.0 f.1 (rw is at h))

pub step_wrong : (judge : Judge) (initial : ℕ → ℕ) (entries : List Entry) (e : Entry) (fault : Option (ℕ × Reason))
    (k : ℕ) (reason : Reason)
    → fault ≡ None → k ≡ length entries → IsSoFar judge initial entries fault
    → (Knows judge initial entries → IsWrong initial entries e reason)
    → IsSoFar judge initial (entries ++ e ∷ []) (Some (k, reason))
unfolding IsSoFar
step_wrong judge initial entries e fault k reason is here h wrong =
    let knows : Knows judge initial entries = rw is at h in
    first_illegal judge initial entries e k reason here knows (wrong knows)

pub step_right : (judge now : Judge) (initial : ℕ → ℕ) (entries : List Entry) (e : Entry) (fault : Option (ℕ × Reason))
    → fault ≡ None
    → IsSoFar judge initial entries fault → (Knows judge initial entries → Knows now initial (entries ++ e ∷ []))
    → IsSoFar now initial (entries ++ e ∷ []) fault
unfolding IsSoFar
step_right judge now initial entries e fault is h taken =
    let knows : Knows judge initial entries = rw is at h in
    rw is (taken knows)

pub verdict_illegal : (judge : Judge) (initial : ℕ → ℕ) (entries : List Entry) (fault : Option (ℕ × Reason)) (k : ℕ)
    (reason : Reason)
    → fault ≡ Some (k, reason) → IsSoFar judge initial entries fault
    → IsVerdict initial entries (verdicts.Illegal k reason)
unfolding IsSoFar
verdict_illegal judge initial entries fault k reason is h = rw is at h

pub verdict_legal : (judge : Judge) (initial : ℕ → ℕ) (entries : List Entry) (fault : Option (ℕ × Reason)) (n : ℕ)
    → fault ≡ None → n ≡ length entries → IsSoFar judge initial entries fault
    → IsVerdict initial entries (verdicts.Legal n)
unfolding IsSoFar IsVerdict
verdict_legal judge initial entries fault n is count h =
    let knows : Knows judge initial entries = rw is at h in
    (count, knows.legal, knows.ordered)

-- a word above the last that was named is above all of them
pub named_above : (last : Option WordAddr) (init : List (WordAddr × ℕ)) (word : WordAddr) → IsLastNamed last init
    → IsAscendingBy (λ pair. pair.0.0) init → IfSome last (λ l. l.0 < word.0) → All (λ pair. pair.0.0 < word.0) init
named_above None init word none ascending above = rw none (All-nil (λ pair. pair.0.0 < word.0))
named_above (Some l) init word named ascending above =
    let before : List (WordAddr × ℕ) = named.0 in
    let last : WordAddr × ℕ = (l, named.1.0) in
    let shape : init ≡ before ++ last ∷ [] = named.1.1 in
    let sorted : IsAscendingBy (λ pair. pair.0.0) (before ++ last ∷ []) =
    subst (λ xs. IsAscendingBy (λ pair. pair.0.0) xs) shape ascending in
    let under : All (λ pair. pair.0.0 < word.0) before = λ k d within.
    (let long : length (before ++ last ∷ []) ≡ length before + 1 = simp length-append refl in
    let lower = rw (get_or_append_left before (last ∷ []) d k within, get_or-append_seam before last [] d)
    at (sorted k (length before) d within (omega arith)) in
    omega arith) in
    rw shape (All-push (λ pair. pair.0.0 < word.0) before last under above)

pub so_far_named : (judge now : Judge) (was is : ℕ → ℕ) (fault : Option (ℕ × Reason))
    → (Knows judge was [] → Knows now is [])
    → IsSoFar judge was [] fault → IsSoFar now is [] fault
unfolding IsSoFar IsVerdict
so_far_named judge now was is None named h = named h
so_far_named judge now was is (Some f) named h = let at : slice_get [] f.0 ≡ Some h.2.0 = h.2.1 in cc

-- one more word is given an initial value
pub stands-begin : (was now : TraceJudge) (init : List (WordAddr × ℕ)) (word : WordAddr) (v : ℕ) → MayBegin was word
    → now.last ≡ Some word
    → now.entries ≡ was.entries → now.fault ≡ was.fault
    → (All (λ pair. pair.0.0 < word.0) init → Knows was.judge (initially init) []
    → Knows now.judge (initially (init ++ (word, v) ∷ [])) [])
    → Stands was init [] → Stands now (init ++ (word, v) ∷ []) []
stands-begin was now init word v may last entries fault named stands =
    let below = named_above was.last init word stands.last stands.ascending may.above in
    record {
      ascending =
          all_pairs_push (λ a b. a.0.0 < b.0.0) init (word, v) stands.ascending (λ k d within. below k d within);
      last = rw last (init, (v, refl));
      count = entries ∙ stands.count;
      so_far = rw fault
          (so_far_named was.judge now.judge (initially init) (initially (init ++ (word, v) ∷ [])) was.fault
          (named below) stands.so_far);
    }

AreLines-push : (version : Version) (ss : List (ℕ × List (List ℕ))) (ls : List TraceLine) (s : ℕ × List (List ℕ))
    (l : TraceLine)
    → AreLines version ss ls → IsLineOf version s.1 l → AreLines version (ss ++ s ∷ []) (ls ++ l ∷ [])
unfolding AreLines
AreLines-push version [] [] s l h k = (k, tt)
AreLines-push version [] (l' ∷ ls) s l h k = absurd h
AreLines-push version (s' ∷ ss) [] s l h k = absurd h
AreLines-push version (s' ∷ ss) (l' ∷ ls) s l h k = (h.0, AreLines-push version ss ls s l h.1 k)

no_entries : (entries : List Entry) (n : ℕ) → n ≡ length entries → n ≡ 0 → entries ≡ []
no_entries [] n count none = refl
no_entries (e ∷ entries) n count none = absurd (omega arith)

-- a line that names a word's value was read
pub reading-begin : (was now : Check) (all left : List (ℕ × List (List ℕ))) (s : ℕ × List (List ℕ)) (word : WordAddr)
    (v : ℕ)
    → now.version ≡ was.version → MayBegin was.trace word → IsLineOf was.version s.1 (trace_lines.Init word v)
    → ((init : List (WordAddr × ℕ)) → Stands was.trace init [] → Stands now.trace (init ++ (word, v) ∷ []) [])
    → IsReading was all (s ∷ left) → IsReading now all left
reading-begin was now all left s word v same may line stands reading =
    let none : reading.entries ≡ [] = no_entries reading.entries was.trace.entries reading.stands.count may.early in
    let written : AreLines was.version reading.done (body_of reading.init []) = rw none at reading.written in
    let more =
    AreLines-push was.version reading.done (body_of reading.init []) s (trace_lines.Init word v) written line in
    let shape : body_of reading.init [] ++ trace_lines.Init word v ∷ []
    ≡ body_of (reading.init ++ (word, v) ∷ []) [] =
    simp (append-nil, map-append) in
    record {
      init = reading.init ++ (word, v) ∷ [];
      entries = [];
      done = reading.done ++ s ∷ [];
      split = append_assoc reading.done (s ∷ []) left ∙ reading.split;
      written = rw same (subst (λ ls. AreLines was.version (reading.done ++ s ∷ []) ls) shape more);
      stands = stands reading.init (rw none at reading.stands);
    }

-- an entry was read
pub reading-judge : (was now : Check) (all left : List (ℕ × List (List ℕ))) (s : ℕ × List (List ℕ)) (e : Entry)
    → now.version ≡ was.version → IsLineOf was.version s.1 (trace_lines.Entry e)
    → ((init : List (WordAddr × ℕ)) (entries : List Entry) → Stands was.trace init entries
    → Stands now.trace init (entries ++ e ∷ []))
    → IsReading was all (s ∷ left) → IsReading now all left
reading-judge was now all left s e same line stands reading =
    let more =
    AreLines-push was.version reading.done (body_of reading.init reading.entries) s
    (trace_lines.Entry e) reading.written line in
    let shape : body_of reading.init reading.entries ++ trace_lines.Entry e ∷ []
    ≡ body_of reading.init (reading.entries ++ e ∷ []) =
    simp (map-append, append_assoc) in
    record {
      init = reading.init;
      entries = reading.entries ++ e ∷ [];
      done = reading.done ++ s ∷ [];
      split = append_assoc reading.done (s ∷ []) left ∙ reading.split;
      written = rw same (subst (λ ls. AreLines was.version (reading.done ++ s ∷ []) ls) shape more);
      stands = stands reading.init reading.entries reading.stands;
    }

-- nothing was read yet
pub reading-none : (check : Check) (all : List (ℕ × List (List ℕ))) → Stands check.trace [] [] → IsReading check all all
unfolding AreLines
reading-none check all stands =
    record { init = []; entries = []; done = []; split = refl; written = tt; stands = stands }

pub few_cores : (version : Version) → cores_of version ≤ 64
few_cores versions.One = omega arith
few_cores versions.Two = omega arith
few_cores versions.WithoutSince = omega arith
