-- The names of replies.
use Rattle.std.specs.Prelude.{ℕ, Bool, ◌&&◌, ◌||◌, List, length, nat_le, slice_index}
use Rattle.std.specs.List.{list_all}
use Rattle.litmus_test.specs.declared.test.TheConstants.{LONGEST_NAME}

-- a lowercase letter, and a digit
abbrev pub is_letter : ℕ → Bool
is_letter b = nat_le 97 b && nat_le b 122

abbrev pub is_digit : ℕ → Bool
is_digit b = nat_le 48 b && nat_le b 57

-- whether a byte may be in a name
abbrev pub may_stand : ℕ → Bool
may_stand b = is_letter b || is_digit b

-- one to 16 lowercase letters and digits, the first of them a letter
unfoldable pub is_name : List ℕ → Bool
is_name word = nat_le (length word) LONGEST_NAME && is_letter (slice_index word 0) && list_all may_stand word
