-- Which outcomes must not occur.
use Rattle.std.specs.Prelude.{ℕ, ◌==◌, Bool, false, List, slice_get}
use Rattle.std.specs.List.{list_all, list_any}
use Rattle.std.specs.Option.{option_map_or}
use Rattle.litmus_test.specs.declared.test.Forbidden.{Forbidden}
use Rattle.litmus_test.specs.declared.test.LitmusTest.{LitmusTest}
use Rattle.litmus_test.specs.declared.test.Pair.{Pair}

-- the outcome has the pair's value under the pair's name
abbrev pub holds : List ℕ → Pair → Bool
holds values pair = option_map_or (λ value. value == pair.value) (slice_get values pair.name) false

-- all pairs of a line hold
abbrev pub matches : List ℕ → Forbidden → Bool
matches values line = list_all (holds values) line.pairs.items

-- the outcome matches a line
abbrev pub is_forbidden : LitmusTest → List ℕ → Bool
is_forbidden test values = list_any (matches values) test.forbidden.items
