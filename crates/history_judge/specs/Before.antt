-- What comes before what in each order of a history.
use Rattle.std.specs.Prelude.{◌≡◌, ◌≢◌, ℕ, ◌<◌, ◌^◌, List, slice_get, Option, Some, option_and_then}
use Rattle.history_judge.specs.Access.{found_in}
use Rattle.history_judge.specs.Order.{IsOrderOf}
use Rattle.history_judge.specs.Writers.{left_at, IsAlone}
use Rattle.history_judge.specs.declared.access.Access.{Access}

-- the value that the access at a place found in the word
abbrev pub found_at : ℕ → List Access → ℕ → Option ℕ
found_at word history i = option_and_then (found_in word) (slice_get history i)

-- the access changes the word
pub record IsWrite (word : ℕ) (history : List Access) (i : ℕ) : Type 0 where
  pub value : ℕ
  pub left : left_at word history i ≡ Some value

-- the one access is before the other
pub record IsBefore (order : List ℕ) (a b : ℕ) : Type 0 where
  pub from : ℕ
  pub to : ℕ
  pub first : slice_get order from ≡ Some a
  pub last : slice_get order to ≡ Some b
  pub before : from < to

-- .. in each order of the history
pub record IsBeforeIn (initial : ℕ → ℕ) (history : List Access) (a b : ℕ) : Type 0 where
  pub each : (order : List ℕ) → IsOrderOf initial history order → IsBefore order a b

-- the reader found the value of the word that the source alone left, which isn't the initial one
pub record IsSourceOf (initial : ℕ → ℕ) (word : ℕ) (history : List Access) (source reader : ℕ) : Type 0 where
  pub small : initial word < 2 ^ 64
  pub value : ℕ
  pub found : found_at word history reader ≡ Some value
  pub other : value ≢ initial word
  pub alone : IsAlone word history value source

-- the access found the word's initial value, which no access leaves
pub record IsInitialAlone (initial : ℕ → ℕ) (word : ℕ) (history : List Access) (i : ℕ) : Type 0 where
  pub small : initial word < 2 ^ 64
  pub found : found_at word history i ≡ Some (initial word)
  pub never : (k : ℕ) → left_at word history k ≢ Some (initial word)
