-- What a printed table of a private cache says.
use Rattle.std.specs.Prelude.{◌≡◌, ◌≢◌, ◌⊎◌, Bool, true, false, ℕ, List, [], ◌∷◌, ◌++◌, codes, Option, Some, None, if◌then◌else◌}
use Rattle.std.specs.List.{Any}
use Rattle.cache_table.specs.Name.{name_of}
use Rattle.cache_table.specs.declared.state.CopyState.{CopyState}
use Rattle.cache_table.specs.declared.row.CacheSends.{CacheSends}
use Rattle.cache_table.specs.declared.row.CacheSends.TheVariants as cache_sends
use Rattle.cache_table.specs.declared.row.Row.{Row}
use Rattle.cache_table.specs.declared.row.Row.TheVariants as rows
use Rattle.protocol_tables.specs.Cache.{before_the_table, text_of_cell, text_of_row}
use Rattle.protocol_tables.specs.CacheRows.{name_of_case, sample_of}
use Rattle.protocol_tables.specs.declared.cache_rows.CacheCase.{CacheCase}
use Rattle.protocol_tables.specs.declared.cache_rows.CacheCase.TheVariants as cases
use Rattle.changed_tables.specs.Cache.{is_at}
use Rattle.changed_tables.specs.Layout.{Cell}
use Rattle.changed_tables.specs.declared.tables.CacheChange.{CacheChange}

-- the title of a column: the case's name, and of what comes with the exclusive state alone that as well
abbrev pub title_of : CacheCase → List ℕ
title_of (cases.DataE true) = codes "Data-E (exclusive on), loads alone"
title_of (cases.DataE false) = codes "Data-E (exclusive on), a write too"
title_of case = name_of_case case

-- what our table says at a cell, and what a row says there
abbrev pub our_text : Bool → CopyState → CacheCase → List ℕ
our_text exclusive state case = text_of_cell exclusive state (sample_of case)

abbrev pub row_text : CacheCase → Row → List ℕ
row_text case row = text_of_row (sample_of case) row

-- what a row can send that is read
abbrev pub sends_at : CacheCase → List CacheSends
sends_at (cases.InvAck how) = cache_sends.Nothing ∷ []
sends_at _ =
    cache_sends.Nothing ∷ cache_sends.GetS ∷ cache_sends.GetM ∷ cache_sends.PutS ∷ cache_sends.PutM
    ∷ cache_sends.InvAckToRequester ∷ cache_sends.DataToRequester ∷ cache_sends.DataToRequesterAndHome ∷ []

-- what the changed table says at a cell
abbrev pub text_in : Bool → List CacheChange → CopyState → CacheCase → List ℕ
text_in exclusive [] state case = our_text exclusive state case
text_in exclusive (change ∷ more) state case =
    if is_at change state case then row_text case change.row else text_in exclusive more state case

-- What a row sends that is read. Where acknowledgements are counted each row prints alike, whatever it sends, so the one
-- that sends nothing is meant.
abbrev pub IsPlain : CacheCase → Row → Type 0
IsPlain (cases.InvAck how) (rows.Go next sent) = sent ≡ cache_sends.Nothing
IsPlain _ _ = Unit {0}

-- a row that says this word
pub record IsSaid (case : CacheCase) (word : List ℕ) (row : Row) : Type 0 where
  pub prints : row_text case row ≡ word
  pub plain : IsPlain case row

abbrev pub NoneSays : CacheCase → List ℕ → Type 0
NoneSays case word = (row : Row) → row_text case row ≢ word

-- A cell with this word is ours, or it is changed to a row that says the word. What never comes to the table has no row.
pub record IsChanged (exclusive : Bool) (state : CopyState) (case : CacheCase) (word : List ℕ) (row : Row) : Type 0 where
  pub said : IsSaid case word row
  pub not_ours : word ≢ our_text exclusive state case
  pub of_table : before_the_table state (sample_of case) ≡ None

abbrev pub IsReadAs : Bool → CopyState → CacheCase → List ℕ → Option Row → Type 0
IsReadAs exclusive state case word None = word ≡ our_text exclusive state case
IsReadAs exclusive state case word (Some row) = IsChanged exclusive state case word row

-- a word that can't occur at a cell
pub record IsRefused (exclusive : Bool) (state : CopyState) (case : CacheCase) (word : List ℕ) : Type 0 where
  pub not_ours : word ≢ our_text exclusive state case
  pub no_row : before_the_table state (sample_of case) ≡ None → NoneSays case word

-- ---- cells of a text

-- a line of a state: its name, and after it maybe the setting without which no copy comes to the state
abbrev pub IsLine : CopyState → List ℕ → Type 0
IsLine state name = (name ≡ name_of state) ⊎ (name ≡ name_of state ++ codes " (exclusive on)")

-- the cell's line and column are those of a state and a case
pub record IsPlace (state : CopyState) (case : CacheCase) (cell : Cell) : Type 0 where
  pub line : IsLine state cell.name
  pub column : cell.title ≡ title_of case

-- the cell says what the changed table says there
pub record IsRead (exclusive : Bool) (changes : List CacheChange) (cell : Cell) : Type 0 where
  pub state : CopyState
  pub case : CacheCase
  pub place : IsPlace state case cell
  pub same : text_in exclusive changes state case ≡ cell.word

-- the change is what the cell says, where our table says something else
pub record IsChange (exclusive : Bool) (change : CacheChange) (cell : Cell) : Type 0 where
  pub place : IsPlace change.state change.case cell
  pub changed : IsChanged exclusive change.state change.case cell.word change.row

-- some of these cells says so
abbrev pub IsOfSome : Bool → List Cell → CacheChange → Type 0
IsOfSome exclusive cells change = Any (IsChange exclusive change) cells

-- the cell says what our table says there
abbrev pub SaysOurs : Bool → Cell → Type 0
SaysOurs exclusive cell =
    (state : CopyState) (case : CacheCase) → IsPlace state case cell → cell.word ≡ our_text exclusive state case
