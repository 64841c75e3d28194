-- The words of an access: one, or all from one to another.
use Rattle.std.specs.Prelude.{◌≡◌, ◌⊎◌, ℕ, ◌+◌, Bool, ◌==◌, List, None, Some, drop, slice_index, take}
use Rattle.std.specs.List.{position}
use Rattle.std.specs.Str.Parse.{digits_value}
use Rattle.litmus_text.specs.Number.{IsNumber}

-- whether a byte is a dot
abbrev pub is_dot : ℕ → Bool
is_dot b = b == 46

-- the text is a number of this value
abbrev pub IsNumberOf : List ℕ → ℕ → Type 0
IsNumberOf text n = IsNumber text × (digits_value 10 text ≡ n)

-- the text is FIRST..LAST, parted by its first dot
pub record IsSpan (text : List ℕ) (first last : ℕ) : Type 0 where
  pub at : ℕ
  pub parted : position is_dot text ≡ Some at
  pub before : IsNumberOf (take at text) first
  pub second_dot : slice_index text (at + 1) ≡ 46
  pub behind : IsNumberOf (drop (at + 2) text) last

-- the text is one word, a number without a dot
pub record IsOneWord (text : List ℕ) (word : ℕ) : Type 0 where
  pub no_dot : position is_dot text ≡ None
  pub number : IsNumberOf text word

-- the text writes the words from the first to the last
abbrev pub IsRange : List ℕ → ℕ → ℕ → Type 0
IsRange text first last = (IsOneWord text first × (first ≡ last)) ⊎ IsSpan text first last
