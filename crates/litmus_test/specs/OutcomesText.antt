-- The table as text: a line for each row, and a last one with how many rounds had a forbidden outcome.
use Rattle.std.specs.Prelude.{ℕ, ◌+◌, ◌-◌, ◌%◌, ◌^◌, List, [], ◌++◌, length, map, replicate, codes, decimal, Option}
use Rattle.std.specs.Prelude.{Some, None, count_by}
use Rattle.std.specs.List.{flat_map, zip}
use Rattle.address_map.specs.declared.address.WordAddr.{WordAddr}
use Rattle.litmus_test.specs.declared.test.LitmusTest.{LitmusTest}
use Rattle.litmus_test.specs.Forbid.{is_forbidden}
use Rattle.litmus_test.specs.Table.{RowView}

-- a text right-aligned in 8 columns; a longer one is written whole
abbrev pub right_in_8 : List ℕ → List ℕ
right_in_8 text = replicate (8 - length text) 32 ++ text

-- the label of a counter's value
abbrev pub counter_label : WordAddr → List ℕ
counter_label word = codes "[" ++ decimal word.0 ++ codes "]"

-- the labels of an outcome's values: the names, and the counters' words
abbrev pub labels_of : LitmusTest → List (List ℕ)
labels_of test = map (λ named. named.name.now) test.names.items ++ map counter_label test.config.counters

-- each value after its label
abbrev pub cells_of : List (List ℕ × ℕ) → List ℕ
cells_of cells = flat_map (λ cell. codes " " ++ cell.0 ++ codes "=" ++ decimal cell.1) cells

-- the seed of the first round that had an outcome, if the seed of round 0 is known
abbrev pub seed_of : Option ℕ → ℕ → List ℕ
seed_of None first = []
seed_of (Some seed) first = codes " seed " ++ decimal ((seed + first) % 2 ^ 64)

-- the line of a row
abbrev pub line_of : LitmusTest → Option ℕ → RowView → List ℕ
line_of test seed row =
    right_in_8 (decimal row.rounds) ++ cells_of (zip (labels_of test) row.values)
    ++ seed_of seed row.first ++ codes "\n"

-- the last line
abbrev pub last_line : ℕ → List ℕ
last_line count = codes "forbidden " ++ decimal count ++ codes "\n"

-- the whole table of these rounds
abbrev pub text_of : LitmusTest → Option ℕ → List RowView → List (List ℕ) → List ℕ
text_of test seed rows rounds =
    flat_map (line_of test seed) rows ++ last_line (count_by (is_forbidden test) rounds)
