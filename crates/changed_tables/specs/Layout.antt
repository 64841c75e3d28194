-- The cells of a text that shows tables. Words are between bars, and a line counts if it begins with a bar. A heading
-- names its table and has the titles of the columns. Each further line has a name, and a cell under each title.
use Rattle.std.specs.Prelude.{ℕ, ◌+◌, ◌-◌, ◌==◌, ◌||◌, ◌&&◌, not, nat_lt, nat_eq, Bool, List, [], ◌∷◌, ◌++◌, length, map}
use Rattle.std.specs.Prelude.{codes, if◌then◌else◌, slice_index_or}
use Rattle.std.specs.Borrow.{Bor}
use Rattle.std.specs.List.{flat_map, range_with_len, slice_split, starts_with}
use Rattle.std.specs.Str.{bytes_eq}
use Rattle.changed_tables.specs.Word.{trimmed}
use Rattle.changed_tables.specs.declared.layout.Kind.{Kind}
use Rattle.changed_tables.specs.declared.layout.Kind.TheVariants as kinds
use Rattle.changed_tables.specs.declared.layout.Written.{Written}

-- ---- words

abbrev pub Words : Type 0
Words = List (List ℕ)

-- words as the code has them, wherever they lie in memory
abbrev pub words_at : List (Bor (List ℕ)) → Words
words_at words = map (λ word. word.now) words

-- the word at this place, and an empty one past the last
abbrev pub word_at : Words → ℕ → List ℕ
word_at words i = slice_index_or words i []

abbrev pub is_empty : List ℕ → Bool
is_empty word = length word == 0

-- what is before the first bar, between bars, and after the last
abbrev pub words_of : List ℕ → Words
words_of line = map trimmed (slice_split (λ byte. byte == 124) line)

-- ---- lines

-- nothing comes before the first bar
abbrev pub has_bar : Words → Bool
has_bar words = nat_lt 1 (length words) && is_empty (word_at words 0)

abbrev pub is_table : List ℕ → Bool
is_table name = bytes_eq name (codes "Cache") || bytes_eq name (codes "Directory")

-- dashes below a heading
abbrev pub is_rule : List ℕ → Bool
is_rule name = starts_with nat_eq name (codes "-")

-- what a line is
abbrev pub kind_of : Words → Kind
kind_of words =
    if not (has_bar words) then kinds.Aside
    else if is_table (word_at words 1) then kinds.Heading
    else if is_rule (word_at words 1) then kinds.Aside
    else kinds.Cells

-- ---- cells

-- a cell: its line and its place there, both counted from 1, the name of its line, the title of its column, and its word
pub record Cell : Type 0 where
  pub line : ℕ
  pub place : ℕ
  pub name : List ℕ
  pub title : List ℕ
  pub word : List ℕ

-- a cell as the code has it
abbrev pub cell_at : Written → Cell
cell_at written = record {
  line = written.line;
  place = written.place;
  name = written.name.now;
  title = written.title.now;
  word = written.word.now;
}

-- the cell at a place, if it or its title says something
abbrev pub cell_of : ℕ → Words → Words → ℕ → List Cell
cell_of line titles words i =
    if is_empty (word_at titles i) && is_empty (word_at words i) then []
    else (record {
      line = line;
      place = i;
      name = word_at words 1;
      title = word_at titles i;
      word = word_at words i;
    }) ∷ []

-- a line's cells: the words after its name
abbrev pub cells_along : ℕ → Words → Words → List Cell
cells_along line titles words = flat_map (cell_of line titles words) (range_with_len 2 (length words - 2))

-- what a line adds: nothing where no heading of the table is above it
abbrev pub cells_of_line : ℕ → Words → Words → List Cell
cells_of_line line [] words = []
cells_of_line line titles words = cells_along line titles words

abbrev pub cells_of_kind : Kind → ℕ → Words → Words → List Cell
cells_of_kind kinds.Cells line titles words = cells_of_line line titles words
cells_of_kind _ line titles words = []

-- the heading that counts below a line: a line of another table has none
abbrev pub titles_of_heading : List ℕ → Words → Words
titles_of_heading table words = if bytes_eq (word_at words 1) table then words else []

abbrev pub titles_after : List ℕ → Kind → Words → Words → Words
titles_after table kinds.Heading titles words = titles_of_heading table words
titles_after table _ titles words = titles

-- ---- texts

-- the cells of these lines, the first of which has this number and is below these titles
abbrev pub cells_of_lines : List ℕ → ℕ → Words → List (List ℕ) → List Cell
cells_of_lines table line titles [] = []
cells_of_lines table line titles (text ∷ more) =
    let words = words_of text in
    let kind = kind_of words in
    cells_of_kind kind line titles words
    ++ cells_of_lines table (line + 1) (titles_after table kind titles words) more

-- the cells that a text has of a table
abbrev pub cells_in : List ℕ → List ℕ → List Cell
cells_in table text = cells_of_lines table 1 [] (slice_split (λ byte. byte == 10) text)
