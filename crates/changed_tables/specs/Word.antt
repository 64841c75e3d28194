-- Words of a text.
use Rattle.std.specs.Prelude.{ℕ, ◌-◌, List, length, take, drop}
use Rattle.std.specs.Char.{is_ascii_whitespace}
use Rattle.std.specs.List.{prefix_len, suffix_len}

-- without the white space at its start, and then without that at its end
abbrev pub trimmed_start : List ℕ → List ℕ
trimmed_start word = drop (prefix_len is_ascii_whitespace word) word

abbrev pub trimmed_end : List ℕ → List ℕ
trimmed_end word = take (length word - suffix_len is_ascii_whitespace word) word

-- without the white space round it
abbrev pub trimmed : List ℕ → List ℕ
trimmed word = trimmed_end (trimmed_start word)
