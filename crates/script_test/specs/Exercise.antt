-- A script with wanted answers: the script in such a text, and what is wanted.
use Rattle.std.specs.Prelude.{ℕ, Bool, not, ◌+◌, ◌==◌, ◌&&◌, ◌||◌, List, [], ◌∷◌, ◌++◌, drop, slice_index}
use Rattle.std.specs.Prelude.{if◌then◌else◌, Option, None, Some}
use Rattle.std.specs.List.{position, prefix_len}
use Rattle.std.specs.Option.{option_map}
use Rattle.std.specs.Char.{is_ascii_whitespace}

-- a byte is hidden that is the first `=` of its line, or follows it
abbrev pub hides : Bool → ℕ → Bool
hides hidden byte = not (byte == 10) && (hidden || byte == 61)

-- The script in a text: a blank replaces each byte that is hidden. So each line keeps its number, and a text without
-- `=` is its own script.
abbrev pub script_in : Bool → List ℕ → List ℕ
script_in hidden [] = []
script_in hidden (byte ∷ more) = (if hides hidden byte then 32 else byte) ∷ script_in (hides hidden byte) more

-- a text without the blanks in front of it
abbrev pub from_words : List ℕ → List ℕ
from_words text = drop (prefix_len is_ascii_whitespace text) text

-- what follows the first `=` of a line, if it has one
abbrev pub behind_equals : List ℕ → Option (List ℕ)
behind_equals line = option_map (λ k. from_words (drop (k + 1) line)) (position (λ b. b == 61) line)

-- what a line wants, which is nothing in a comment
abbrev pub wanted_in : List ℕ → Option (List ℕ)
wanted_in line = if slice_index line 0 == 35 then None else behind_equals line

-- a wanted line with its number, if there is one
abbrev pub one_wanted : ℕ → Option (List ℕ) → List (ℕ × List ℕ)
one_wanted number None = []
one_wanted number (Some text) = (number, text) ∷ []

-- what lines want, after n others: each wanted line with the number of the line that it is in, from 1
abbrev pub wants_from : ℕ → List (List ℕ) → List (ℕ × List ℕ)
wants_from n [] = []
wants_from n (line ∷ more) = one_wanted (n + 1) (wanted_in line) ++ wants_from (n + 1) more
