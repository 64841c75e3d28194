-- The text of a part.
use Rattle.std.specs.Prelude.{◌≡◌, ◌<◌, ℕ, ◌+◌, ◌-◌, ◌%◌, ◌^◌, ◌==◌, if◌then◌else◌, List, ◌++◌, codes, decimal}
use Rattle.std.specs.List.{flat_map}
use Rattle.litmus_test.specs.Table.{RowView}
use Rattle.litmus_test.specs.declared.outcomes.ended.Ended.{Ended}
use Rattle.litmus_test.specs.declared.outcomes.ended.Ended.TheVariants as ended_kinds
use Rattle.litmus_rounds.specs.declared.part.Part.{Part}

-- the most moves of a round, if there is a limit
abbrev pub limit_of : ℕ → List ℕ
limit_of most = if most == 2 ^ 64 - 1 then codes "none" else decimal most

-- a word, and the blank after it
abbrev pub word_of : List ℕ → List ℕ
word_of word = word ++ codes " "

-- the first line begins with the versions of the format and of the program ..
abbrev pub opening : List ℕ
opening = word_of (codes "lockup-part") ++ (word_of (codes "1") ++ (word_of (codes "0.3.0") ++ word_of (codes "test")))

-- .. and says which test and which limit ..
abbrev pub walk_of : Part → List ℕ
walk_of part = opening ++ (decimal part.sum ++ (codes " limit " ++ limit_of part.most))

-- .. and which rounds
abbrev pub rounds_in : Part → List ℕ
rounds_in part = codes " seed " ++ (decimal part.seed ++ (codes " rounds " ++ (decimal part.count ++ codes "\n")))

abbrev pub head_of : Part → List ℕ
head_of part = walk_of part ++ rounds_in part

abbrev pub value_of : ℕ → List ℕ
value_of value = codes " " ++ decimal value

-- an outcome: how many rounds had it, the seed of the first, and its values
abbrev pub line_of : ℕ → RowView → List ℕ
line_of seed row =
    codes "outcome " ++ (decimal row.rounds ++ (codes " seed " ++ (decimal ((seed + row.first) % 2 ^ 64)
    ++ (codes " values" ++ (flat_map value_of row.values ++ codes "\n")))))

-- the last line: how the rounds ended
abbrev pub end_of : Ended → List ℕ
end_of ended_kinds.Done = codes "end\n"
end_of (ended_kinds.Stuck round) = codes "end stuck round " ++ (decimal round ++ codes "\n")
end_of (ended_kinds.GaveUp round) = codes "end gave up round " ++ (decimal round ++ codes "\n")

abbrev pub text_of_part : Part → List ℕ
text_of_part part = head_of part ++ (flat_map (line_of part.seed) part.outcomes.rows ++ end_of part.ended)

-- parts one after another
abbrev pub text_of_parts : List Part → List ℕ
text_of_parts parts = flat_map text_of_part parts

-- `counted` rounds have an outcome: all of them, or those before one that has none
abbrev pub Counts : (counted count : ℕ) → Ended → Type 0
Counts counted count ended_kinds.Done = counted ≡ count
Counts counted count (ended_kinds.Stuck round) = (counted ≡ round) × (round < count)
Counts counted count (ended_kinds.GaveUp round) = (counted ≡ round) × (round < count)

abbrev pub IsWhole : Part → Type 0
IsWhole part = Counts part.outcomes.rounds part.count part.ended
