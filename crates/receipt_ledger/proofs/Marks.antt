-- Entries that are marked as handed out.
use Rattle.std.proofs.Common.{◌≡◌, ◌≢◌, ℕ, zero, suc, Bool, true, false, List, [], ◌∷◌, ◌++◌, length, Some, refl, ap}
use Rattle.std.proofs.Common.{arith, set}
use Rattle.std.specs.Prelude.{slice_get}
use Rattle.std.proofs.lemmas.Option.{same_Some}
use Rattle.slice_log.specs.declared.entry.Entry.{Entry}
use Rattle.receipt_ledger.specs.Counted.{handed_out, is_handed}

-- Another entry that isn't handed out changes nothing.
pub handed_out-waiting : (log : List Entry) (marks : List Bool) (e : Entry) → length marks ≡ length log
    → handed_out (log ++ e ∷ []) (marks ++ false ∷ []) ≡ handed_out log marks
handed_out-waiting [] [] e sized = refl
handed_out-waiting [] (mark ∷ marks) e sized = absurd (omega (arith, sized))
handed_out-waiting (entry ∷ log) [] e sized = absurd (omega (arith, sized))
handed_out-waiting (entry ∷ log) (true ∷ marks) e sized =
    ap (λ entries. entry ∷ entries) (handed_out-waiting log marks e (omega (arith, sized)))
handed_out-waiting (entry ∷ log) (false ∷ marks) e sized = handed_out-waiting log marks e (omega (arith, sized))

-- One entry more is handed out, wherever it is among the others.
pub record OneMore (e : Entry) (old new : List Entry) : Type 0 where
  pub before : List Entry
  pub later : List Entry
  pub was : old ≡ before ++ later
  pub is : new ≡ before ++ e ∷ later

behind : (first e : Entry) (old new : List Entry) → OneMore e old new → OneMore e (first ∷ old) (first ∷ new)
behind first e old new one = record {
  before = first ∷ one.before;
  later = one.later;
  was = ap (λ entries. first ∷ entries) one.was;
  is = ap (λ entries. first ∷ entries) one.is;
}

-- An entry that is marked is one more that is handed out.
pub handed_out-marked : (log : List Entry) (marks : List Bool) (number : ℕ) (e : Entry) → slice_get log number ≡ Some e
    → is_handed marks number ≡ false → OneMore e (handed_out log marks) (handed_out log (set marks number true))
handed_out-marked [] marks number e there waits = absurd (cc)
handed_out-marked (entry ∷ log) [] number e there waits = absurd (cc)
handed_out-marked (entry ∷ log) (true ∷ marks) zero e there waits = absurd (cc)
handed_out-marked (entry ∷ log) (false ∷ marks) zero e there waits = record {
  before = [];
  later = handed_out log marks;
  was = refl;
  is = ap (λ first. first ∷ handed_out log marks) (same_Some entry e there);
}
handed_out-marked (entry ∷ log) (true ∷ marks) (suc number) e there waits =
    behind entry e (handed_out log marks) (handed_out log (set marks number true))
    (handed_out-marked log marks number e there waits)
handed_out-marked (entry ∷ log) (false ∷ marks) (suc number) e there waits =
    handed_out-marked log marks number e there waits

-- Where no reply waits, all entries are handed out.
pub handed_out-all : (log : List Entry) (marks : List Bool) → length marks ≡ length log
    → ((number : ℕ) → is_handed marks number ≢ false) → handed_out log marks ≡ log
handed_out-all [] marks sized none = refl
handed_out-all (entry ∷ log) [] sized none = absurd (omega (arith, sized))
handed_out-all (entry ∷ log) (true ∷ marks) sized none =
    ap (λ entries. entry ∷ entries) (handed_out-all log marks (omega (arith, sized)) (λ number. none (suc number)))
handed_out-all (entry ∷ log) (false ∷ marks) sized none = absurd (none 0 refl)
