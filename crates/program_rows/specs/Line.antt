-- The fields of a line.
use Rattle.std.specs.Prelude.{◌≡◌, ℕ, List, ◌∷◌, ◌++◌, MatchOption}
use Rattle.program_rows.specs.declared.field.Split.{Split}

-- a line is its first field and, after a comma (44), the others
abbrev pub IsSplit : List ℕ → Split → Type 0
IsSplit line split =
    MatchOption split.behind (line ≡ split.field.now) (λ behind. line ≡ split.field.now ++ 44 ∷ behind.now)
