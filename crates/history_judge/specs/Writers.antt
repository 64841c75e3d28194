-- Which access left a value in a word.
use Rattle.std.specs.Prelude.{◌≡◌, ◌≢◌, ℕ, All, List, slice_get, nat_eq, Option, Some, None, option_and_then}
use Rattle.std.specs.HashMap.{get}
use Rattle.history_judge.specs.Access.{left_in}
use Rattle.history_judge.specs.declared.access.Access.{Access}
use Rattle.history_judge.specs.declared.writers.Writer.{Writer}
use Rattle.history_judge.specs.declared.writers.Writer.TheVariants as writers
use Rattle.history_judge.specs.declared.writers.Writers.{Writers}
use Rattle.history_judge.specs.declared.writers.Tables.{Tables}

-- the value that the access at a place left in the word, if it changed it
abbrev pub left_at : ℕ → List Access → ℕ → Option ℕ
left_at word history i = option_and_then (left_in word) (slice_get history i)

-- one access alone left the value
pub record IsAlone (word : ℕ) (history : List Access) (v w : ℕ) : Type 0 where
  pub left : left_at word history w ≡ Some v
  pub alone : (i : ℕ) → left_at word history i ≡ Some v → i ≡ w

-- the recorded writer of a value is right: none left it, or this one alone did
unfoldable pub IsWriterOf : ℕ → List Access → ℕ → Option Writer → Type 0
IsWriterOf word history v None = (i : ℕ) → left_at word history i ≢ Some v
IsWriterOf word history v (Some (writers.One w)) = IsAlone word history v w
IsWriterOf word history v (Some writers.Several) = Unit {0}

-- the recorded writer of a value that one more access left
abbrev pub writer_with : Option Writer → ℕ → Writer
writer_with None place = writers.One place
writer_with (Some writer) place = writers.Several

pub record IsTableOf (table : Writers) (word : ℕ) (history : List Access) : Type 0 where
  pub says : (v : ℕ) → IsWriterOf word history v (get nat_eq table.map v)

pub record AreTablesOf (tables : Tables) (history : List Access) : Type 0 where
  pub each : All (λ row. IsTableOf row.writers row.word.0 history) tables.rows.items
