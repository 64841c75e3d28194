-- The table of the outcomes of some rounds. An outcome is a list of values: those of the named replies, in the order of
-- the names, and then those of the counters. Rounds are a list of outcomes, and are numbered from 0.
use Rattle.std.specs.Prelude.{◌≡◌, ◌⊎◌, ℕ, List, ◌++◌, ◌+◌, ◌<◌, ◌≤◌, ◌%◌, ◌^◌, length, take, drop, set, insert}
use Rattle.std.specs.Prelude.{HoldsAt, All, Any, AllPairs, slice_get, slice_index_or, if◌then◌else◌}
use Rattle.std.specs.Prelude.{Some, count_by, sum_by, nat_eq}
use Rattle.std.specs.Cmp.Lexicographic.{pointwise, slice_cmp}
use Rattle.std.specs.Ordering.{nat_cmp}
use Rattle.std.specs.declared.cmp.Ordering.TheVariants.{Less}

-- a row of a table: an outcome, how many rounds had it, and the first that had it
pub record RowView : Type 0 where
  pub values : List ℕ
  pub rounds : ℕ
  pub first : ℕ

-- a table: its rows, and the number of its rounds
pub record TableView : Type 0 where
  pub rows : List RowView
  pub rounds : ℕ

-- how many of the rounds had the outcome
abbrev pub count_of : List ℕ → List (List ℕ) → ℕ
count_of values rounds = count_by (pointwise nat_eq values) rounds

-- the row's outcome is the smaller: at the first place where the two differ its value is, or it ends
abbrev pub IsBelow : RowView → RowView → Type 0
IsBelow row later = slice_cmp nat_cmp row.values later.values ≡ Less

-- the row is right about how often its outcome came, and where first
pub record IsRowOf (rounds : List (List ℕ)) (row : RowView) : Type 0 where
  pub counted : row.rounds ≡ count_of row.values rounds
  pub had : slice_get rounds row.first ≡ Some row.values
  pub none_before : count_of row.values (take row.first rounds) ≡ 0

-- the rows are right and ascend, and each round's outcome has one
pub record AreRowsOf (rounds : List (List ℕ)) (rows : List RowView) : Type 0 where
  pub ascending : AllPairs IsBelow rows
  pub each_row : All (IsRowOf rounds) rows
  pub each_round : All (λ outcome. Any (λ row. row.values ≡ outcome) rows) rounds

-- the table of these rounds
pub record IsTableOf (rounds : List (List ℕ)) (table : TableView) : Type 0 where
  pub rows : AreRowsOf rounds table.rows
  pub count : table.rounds ≡ length rounds

-- what holds of each table: its rows ascend, no round is lost or counted twice, and the rounds can be counted
pub record IsSound (rows : List RowView) (rounds : ℕ) : Type 0 where
  pub ascending : AllPairs IsBelow rows
  pub total : sum_by (λ row. row.rounds) rows ≡ rounds
  pub few : rounds < 2 ^ 64

-- the row at this place has the outcome
pub record IsPlaceOf (rows : List RowView) (values : List ℕ) (at : ℕ) : Type 0 where
  pub in_range : at < length rows
  pub has : HoldsAt (λ row. row.values ≡ values) rows at

-- a row of the outcome would go to this place: smaller ones before it, and greater ones from it on
pub record IsGapFor (rows : List RowView) (values : List ℕ) (at : ℕ) : Type 0 where
  pub in_range : at ≤ length rows
  pub smaller_before : All (λ row. slice_cmp nat_cmp row.values values ≡ Less) (take at rows)
  pub greater_after : All (λ row. slice_cmp nat_cmp values row.values ≡ Less) (drop at rows)

-- `more.rounds` more rounds are counted by the row that has their outcome
pub record CountsAgain (more : RowView) (old new : List RowView) : Type 0 where
  pub at : ℕ
  pub row : RowView
  pub in_range : at < length old
  pub is : row ≡ slice_index_or old at row
  pub has : row.values ≡ more.values
  pub set_there : new ≡ set old at (record row { rounds = row.rounds + more.rounds })

-- .. or by a new row
pub record CountsFirst (more : RowView) (old new : List RowView) : Type 0 where
  pub at : ℕ
  pub gap : IsGapFor old more.values at
  pub inserted : new ≡ insert old at more

-- a table counts `more.rounds` more rounds of one outcome; `more.first` is the first of them if the outcome is new
pub record Counts (more : RowView) (old new : TableView) : Type 0 where
  pub rows : CountsAgain more old.rows new.rows ⊎ CountsFirst more old.rows new.rows
  pub rounds : new.rounds ≡ old.rounds + more.rounds

-- how many rounds the rows count of an outcome
abbrev pub counted_in : List ℕ → List RowView → ℕ
counted_in values rows = sum_by (λ row. if pointwise nat_eq values row.values then row.rounds else 0) rows

-- a row has the outcome
abbrev pub Has : List RowView → List ℕ → Type 0
Has rows values = Any (λ row. row.values ≡ values) rows

-- The first round that had the row's outcome is the first of the one table's, or else of the other's, whose round 0 is
-- the round of this number.
abbrev pub IsFirstOfBoth : ℕ → (one other : List RowView) → RowView → Type 0
IsFirstOfBoth from one other row =
    Any (λ known. (known.values ≡ row.values) × (row.first ≡ known.first)) one
    ⊎ (¬ Has one row.values × Any (λ known. (known.values ≡ row.values) × (row.first ≡ (from + known.first) % 2 ^ 64)) other)

-- the row counts what the rows of its outcome count in both tables
pub record IsRowOfBoth (from : ℕ) (one other : List RowView) (row : RowView) : Type 0 where
  pub counted : row.rounds ≡ counted_in row.values one + counted_in row.values other
  pub first : IsFirstOfBoth from one other row

-- the rows of two tables together, where round 0 of the other is the round of this number
pub record AreRowsOfBoth (from : ℕ) (one other rows : List RowView) : Type 0 where
  pub ascending : AllPairs IsBelow rows
  pub each_row : All (IsRowOfBoth from one other) rows
  pub each_has : All (λ row. Has rows row.values) (one ++ other)

-- two tables together
pub record IsBoth (from : ℕ) (one other both : TableView) : Type 0 where
  pub rows : AreRowsOfBoth from one.rows other.rows both.rows
  pub rounds : both.rounds ≡ one.rounds + other.rounds
