-- Of the values after a command, those that it changed.
use Rattle.std.specs.Prelude.{ℕ, Bool, false, List, [], ◌∷◌, ◌++◌, codes, drop, if◌then◌else◌, slice_get}
use Rattle.std.specs.Prelude.{Option, Some, None}
use Rattle.std.specs.Str.{bytes_eq}

-- the value was there before
abbrev pub is_told : Option (List ℕ) → List ℕ → Bool
is_told None value = false
is_told (Some before) value = bytes_eq before value

abbrev pub change_of : Option (List ℕ) → List ℕ → List ℕ
change_of before value = if is_told before value then [] else value ++ codes "\n"

-- The lines of values before, and those that are now: each represents the signal of the line at the same place,
-- and those of signals that are new come last. What differs is written.
abbrev pub changes : List (List ℕ) → List (List ℕ) → List ℕ
changes before [] = []
changes before (value ∷ more) = change_of (slice_get before 0) value ++ changes (drop 1 before) more
