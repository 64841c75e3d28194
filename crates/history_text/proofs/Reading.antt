-- The lines of a history, one after another.
use Rattle.std.proofs.Common.{◌≡◌, ℕ, List, [], ◌∷◌, ◌++◌, Option, Some, None, true, false, refl, sym, ap, ◌∙◌, subst, inl, inr}
use Rattle.std.specs.Prelude.{is_some}
use Rattle.address_map.specs.declared.address.WordAddr.{WordAddr}
use Rattle.std.proofs.Common.{append_assoc, append-nil}
use Rattle.std.specs.Str.Lines.{lines}
use Rattle.litmus_text.specs.Fault.{IsAtLine}
use Rattle.litmus_text.specs.Form.{Writes}
use Rattle.litmus_text.specs.Statement.{statements_from}
use Rattle.litmus_text.specs.declared.fault.TextFault.{TextFault}
use Rattle.litmus_text.specs.declared.fault.TextFault.TheVariants as text_faults
use Rattle.trace_check.specs.Trace.{IsFaultAt, IsFaultOfTrace, IsNoMemoryOrLine, IsNoTrace, IsOfLine}
use Rattle.history_text.specs.Histories.{AreTold, given_at, given_in, row_of, value_in}
use Rattle.history_text.proofs.Rows.{same_value}
use Rattle.history_text.specs.HistoryLine.{IsLineOf, parts_of_history}
use Rattle.history_text.specs.Judged.{AreFresh, AreHistoriesOf, AreHistoriesOfTrace, AreWritten, BeginsAsHistory}
use Rattle.history_text.specs.Judged.{IsFaultIn, IsFaultOf, IsFresh, IsGivenAgain, IsNoMemoryOrAt, IsNoNext, ReadsNext, ReadsTo}
use Rattle.history_text.specs.declared.histories.Histories.{Histories}
use Rattle.history_text.specs.declared.history_line.HistoryLine.{HistoryLine}
use Rattle.history_text.specs.declared.history_line.HistoryLine.TheVariants as history_lines

-- of these statements some were read, and these are the histories in their lines
pub record IsReading (all left : List (ℕ × List (List ℕ))) (histories : Histories) : Type 0 where
  pub done : List (ℕ × List (List ℕ))
  pub split : done ++ left ≡ all
  pub told : List HistoryLine
  pub written : AreWritten done told
  pub once : AreFresh [] told
  pub are : AreTold histories told

pub reading_none : (all : List (ℕ × List (List ℕ))) (histories : Histories) → AreTold histories []
    → IsReading all all histories
unfolding AreFresh AreWritten
reading_none all histories none =
    record { done = []; split = refl; told = []; written = tt; once = tt; are = none }

written_more : (ss : List (ℕ × List (List ℕ))) (ls : List HistoryLine) (s : ℕ × List (List ℕ)) (l : HistoryLine)
    → AreWritten ss ls → IsLineOf s.1 l → AreWritten (ss ++ s ∷ []) (ls ++ l ∷ [])
unfolding AreWritten
written_more [] [] s l h k = (k, tt)
written_more [] (l' ∷ ls) s l h k = absurd h
written_more (s' ∷ ss) [] s l h k = absurd h
written_more (s' ∷ ss) (l' ∷ ls) s l h k = (h.0, written_more ss ls s l h.1 k)

fresh_more : (before ls : List HistoryLine) (l : HistoryLine) → AreFresh before ls → IsFresh (before ++ ls) l
    → AreFresh before (ls ++ l ∷ [])
unfolding AreFresh
fresh_more before [] l h k = (subst (λ b. IsFresh b l) (append-nil before) k, tt)
fresh_more before (l' ∷ ls) l h k = (
  h.0,
  fresh_more (before ++ l' ∷ []) ls l h.1
      (subst (λ b. IsFresh b l) (sym (append_assoc before (l' ∷ []) ls)) k),
)

-- a word was given what its lines give it
given_as : (histories : Histories) (told : List HistoryLine) (word : WordAddr) → AreTold histories told
    → given_at histories word.0 ≡ given_in word.0 told
given_as histories told word are =
    ap (λ (list : List (WordAddr × ℕ)). value_in list word.0) (are.inits (row_of histories.extent word.0))
    ∙ same_value histories.extent word.0 told

-- whether a word was given a value is whether its lines give it one
pub given_again : (histories : Histories) (told : List HistoryLine) (word : WordAddr) (value : ℕ) (given : Option ℕ)
    → given ≡ given_at histories word.0 → is_some given ≡ true → AreTold histories told
    → IsGivenAgain told (history_lines.Init word value)
unfolding IsGivenAgain
given_again histories told word value None is said are = cc
given_again histories told word value (Some v) is said are =
    λ none. let some : Some v ≡ None = is ∙ given_as histories told word are ∙ none in cc

pub given_first : (histories : Histories) (told : List HistoryLine) (word : WordAddr) (value : ℕ) (given : Option ℕ)
    → given ≡ given_at histories word.0 → is_some given ≡ false → AreTold histories told
    → IsFresh told (history_lines.Init word value)
unfolding IsFresh
given_first histories told word value None is said are = sym (given_as histories told word are) ∙ sym is
given_first histories told word value (Some v) is said are = cc

pub reading_more : (all left : List (ℕ × List (List ℕ))) (s : ℕ × List (List ℕ)) (old now : Histories)
    → ((told : List HistoryLine) → AreTold old told → ReadsNext told s.1 now) → IsReading all (s ∷ left) old
    → IsReading all left now
reading_more all left s old now reads reading =
    let next = reads reading.told reading.are in
    record {
      done = reading.done ++ s ∷ [];
      split = append_assoc reading.done (s ∷ []) left ∙ reading.split;
      told = reading.told ++ next.line ∷ [];
      written = written_more reading.done reading.told s next.line reading.written next.written;
      once = fresh_more [] reading.told next.line reading.once next.fresh;
      are = next.are;
    }

pub reading_all : (all left : List (ℕ × List (List ℕ))) (histories : Histories) → left ≡ []
    → IsReading all left histories → ReadsTo all histories
reading_all all left histories none reading =
    let whole : reading.done ≡ all =
    sym (append-nil reading.done) ∙ sym (ap (λ ss. reading.done ++ ss) none) ∙ reading.split in
    record {
      told = reading.told;
      written = subst (λ ss. AreWritten ss reading.told) whole reading.written;
      once = reading.once;
      are = reading.are;
    }

-- the first remaining statement is invalid if its words write no line that may be there
pub first_fault : (all left : List (ℕ × List (List ℕ))) (s : ℕ × List (List ℕ)) (histories : Histories)
    (fault : TextFault) → IsReading all (s ∷ left) histories
    → IsNoMemoryOrAt (λ number. (number ≡ s.0)
    × ((told : List HistoryLine) → AreTold histories told → IsNoNext told s.1)) fault
    → IsNoMemoryOrAt (IsFaultIn all) fault
unfolding IsNoMemoryOrAt
first_fault all left s histories text_faults.NoMemory reading is = tt
first_fault all left s histories (text_faults.Line number fault) reading is =
    record {
      before = reading.done;
      words = s.1;
      behind = left;
      stands = sym reading.split ∙ ap (λ (n : ℕ). reading.done ++ (n, s.1) ∷ left) (sym is.0);
      told = reading.told;
      written = reading.written;
      once = reading.once;
      is = is.1 reading.told reading.are;
    }
first_fault all left s histories (text_faults.Config error) reading is = absurd is
first_fault all left s histories text_faults.CannotWrite reading is = absurd is

-- ---- texts

pub of_history : (text : List ℕ) (first : ℕ × List (List ℕ)) (rest : List (ℕ × List (List ℕ)))
    (histories : Histories) → statements_from 0 (lines text) ≡ first ∷ rest → Writes first.1 parts_of_history
    → ReadsTo rest histories → AreHistoriesOf text histories
of_history text first rest histories are begins reads = record {
  told = reads.told;
  tells = inr (record {
    first = first;
    rest = rest;
    statements = are;
    begins = begins;
    written = reads.written;
    once = reads.once;
  });
  are = reads.are;
}

pub of_trace : (text : List ℕ) (histories : Histories) → AreHistoriesOfTrace text histories
    → AreHistoriesOf text histories
of_trace text histories is = record { told = is.told; tells = inl is.tells; are = is.are }

pub fault_of_history : (text : List ℕ) (first : ℕ × List (List ℕ)) (rest : List (ℕ × List (List ℕ)))
    (fault : TextFault) → statements_from 0 (lines text) ≡ first ∷ rest → Writes first.1 parts_of_history
    → IsNoMemoryOrAt (IsFaultIn rest) fault → IsFaultOf text fault
unfolding IsFaultOf IsNoMemoryOrAt
fault_of_history text first rest text_faults.NoMemory are begins is = tt
fault_of_history text first rest (text_faults.Line number fault) are begins is =
    inl (record { first = first; rest = rest; are = are; begins = begins; is = is })
fault_of_history text first rest (text_faults.Config error) are begins is = is
fault_of_history text first rest text_faults.CannotWrite are begins is = is

pub fault_of_other : (text : List ℕ) (fault : TextFault)
    → (BeginsAsHistory (statements_from 0 (lines text)) → ⊥) → IsNoMemoryOrLine (IsNoTrace text) fault
    → IsAtLine (IsFaultAt (statements_from 0 (lines text))) fault
    → IsOfLine (IsFaultOfTrace (statements_from 0 (lines text))) fault → IsFaultOf text fault
unfolding IsFaultOf
fault_of_other text text_faults.NoMemory other refused line is = tt
fault_of_other text (text_faults.Line number fault) other refused line is =
    inr (record { other = other; refused = refused; line = line; is = is })
fault_of_other text (text_faults.Config error) other refused line is = refused
fault_of_other text text_faults.CannotWrite other refused line is = refused

-- a text of no statements, or whose first are other words, begins as no history
pub no_statements : (statements : List (ℕ × List (List ℕ))) → statements ≡ [] → BeginsAsHistory statements → ⊥
unfolding BeginsAsHistory
no_statements [] none begins = begins
no_statements (s ∷ ss) none begins = cc

pub other_first : (statements : List (ℕ × List (List ℕ))) (first : ℕ × List (List ℕ))
    (rest : List (ℕ × List (List ℕ))) → statements ≡ first ∷ rest → (Writes first.1 parts_of_history → ⊥)
    → BeginsAsHistory statements → ⊥
unfolding BeginsAsHistory
other_first [] first rest are other begins = begins
other_first (s ∷ ss) first rest are other begins =
    let same : s ≡ first = cc in
    other (subst (λ (p : ℕ × List (List ℕ)). Writes p.1 parts_of_history) same begins)
