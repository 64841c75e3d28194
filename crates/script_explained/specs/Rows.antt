-- A command, and the lines of its answer next to it.
use Rattle.std.specs.Prelude.{ℕ, List, [], ◌∷◌, ◌++◌, codes, drop, length, replicate}
use Rattle.std.specs.List.{flat_map}

-- the blanks that fill up the column after a command: none where it is as wide or wider
abbrev pub blanks_behind : List ℕ → List ℕ
blanks_behind command = drop (length command) (replicate 38 32)

-- a row: a command, and next to it a line of its answer
abbrev pub row_of : List ℕ → List ℕ → List ℕ
row_of command line = command ++ (blanks_behind command ++ (codes "  " ++ (line ++ codes "\n")))

-- the first line of an answer is next to the command, the others below it
abbrev pub text_beside : List ℕ → List (List ℕ) → List ℕ
text_beside command [] = row_of command []
text_beside command (line ∷ more) = row_of command line ++ flat_map (row_of []) more
