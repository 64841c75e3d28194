-- A text is lines, and a line is words.
use Rattle.std.specs.Prelude.{ℕ, Bool, ◌==◌, ◌||◌, List, [], length, filter, nat_lt, slice_index, if◌then◌else◌}
use Rattle.std.specs.List.{slice_split}

-- a space or a tab
abbrev pub is_blank : ℕ → Bool
is_blank b = b == 32 || b == 9

-- the parts that aren't empty
abbrev pub parts_with_bytes : List (List ℕ) → List (List ℕ)
parts_with_bytes parts = filter (λ w. nat_lt 0 (length w)) parts

-- the words of a text: its parts between blanks, where two blanks side by side have no word between them
abbrev pub words : List ℕ → List (List ℕ)
words bs = parts_with_bytes (slice_split is_blank bs)

-- the words of a line: a line that begins with `#` is a comment and has none
abbrev pub words_of_line : List ℕ → List (List ℕ)
words_of_line line = if slice_index line 0 == 35 then [] else words line
