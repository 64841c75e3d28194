-- The small machine of a slice, counted: which requests wait, and which entries of its log are handed out.
use Rattle.std.specs.Prelude.{◌≡◌, ◌≢◌, ℕ, Bool, true, false, List, [], ◌∷◌, length, slice_index_or, AllPairs, Contains}
use Rattle.slice_core_theory.specs.SmallMachine.{Asked, SmallMachine}
use Rattle.slice_log.specs.declared.entry.Entry.{Entry}

-- whether the entry of this number is marked as handed out; none waits past the last
abbrev pub is_handed : List Bool → ℕ → Bool
is_handed marks number = slice_index_or marks number true

-- the entries of the log that are marked as handed out
abbrev pub handed_out : List Entry → List Bool → List Entry
handed_out [] marks = []
handed_out (entry ∷ log) [] = []
handed_out (entry ∷ log) (true ∷ marks) = entry ∷ handed_out log marks
handed_out (entry ∷ log) (false ∷ marks) = handed_out log marks

-- The requests that wait are these, each listed once; and the log's entries are marked, by number, as handed out
-- where no reply of theirs waits.
pub record AreMarked (m : SmallMachine) (waiting : List Asked) (marks : List Bool) : Type 0 where
  pub waits : (r : Asked) → (m.waiting r → Contains waiting r) × (Contains waiting r → m.waiting r)
  pub once : AllPairs (λ r other. r ≢ other) waiting
  pub sized : length marks ≡ length m.log
  pub replies : (number : ℕ)
      → (m.replies number → is_handed marks number ≡ false) × (is_handed marks number ≡ false → m.replies number)
