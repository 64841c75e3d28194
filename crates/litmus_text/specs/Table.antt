-- Named values.
use Rattle.std.specs.Prelude.{ℕ, List, Option, option_map, map}
use Rattle.std.specs.Borrow.{Bor}
use Rattle.std.specs.List.{find}
use Rattle.std.specs.Str.{bytes_eq}

-- the value of the first entry with this name
abbrev pub value_named : {T : Type 0} → List (List ℕ × T) → List ℕ → Option T
value_named table name = option_map (λ entry. entry.1) (find (λ entry. bytes_eq entry.0 name) table)

-- the names and the values of a table's entries
abbrev pub entries : {T : Type 0} → List (Bor (List ℕ) × T) → List (List ℕ × T)
entries table = map (λ entry. (entry.0.now, entry.1)) table
