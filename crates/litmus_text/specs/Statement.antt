-- The lines of a text that say something.
use Rattle.std.specs.Prelude.{ℕ, ◌+◌, ◌==◌, List, [], ◌∷◌, length, take, if◌then◌else◌}
use Rattle.litmus_text.specs.Text.{words_of_line}
use Rattle.litmus_text.specs.declared.row.TheConstants.{MOST_WORDS}

-- the words of a line that are kept
abbrev pub kept_words : List ℕ → List (List ℕ)
kept_words line = take MOST_WORDS (words_of_line line)

-- the lines that have words, after n others: each with its number, from 1, and its words
abbrev pub statements_from : ℕ → List (List ℕ) → List (ℕ × List (List ℕ))
statements_from n [] = []
statements_from n (line ∷ more) =
    if length (kept_words line) == 0 then statements_from (n + 1) more
    else (n + 1, kept_words line) ∷ statements_from (n + 1) more
