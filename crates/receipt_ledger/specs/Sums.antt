-- Eight whole numbers, one for each place that a counter can have. They aren't reduced.
use Rattle.std.specs.Prelude.{ℕ, ◌+◌, ◌==◌, if◌then◌else◌, List, [], ◌∷◌, slice_get, slice_index_or}
use Rattle.std.specs.Option.{option_map_or}
use Rattle.address_map.specs.declared.address.WordAddr.{WordAddr}
use Rattle.slice_log.specs.declared.entry.Entry.{Entry}
use Rattle.slice_log.specs.Log.{named}

pub record Sums : Type 0 where
  pub c0 : ℕ
  pub c1 : ℕ
  pub c2 : ℕ
  pub c3 : ℕ
  pub c4 : ℕ
  pub c5 : ℕ
  pub c6 : ℕ
  pub c7 : ℕ

-- what a share of the eight has: `parts` parts of each, and these sums
pub record Held : Type 0 where
  pub parts : ℕ
  pub sums : Sums

-- the sum at a place; past the last place it is 0
unfoldable pub at : Sums → ℕ → ℕ
at s place = slice_index_or (s.c0 ∷ s.c1 ∷ s.c2 ∷ s.c3 ∷ s.c4 ∷ s.c5 ∷ s.c6 ∷ s.c7 ∷ []) place 0

-- the sums that have these numbers at their places
unfoldable pub table : (ℕ → ℕ) → Sums
table f = record { c0 = f 0; c1 = f 1; c2 = f 2; c3 = f 3; c4 = f 4; c5 = f 5; c6 = f 6; c7 = f 7 }

unfoldable pub zeros : Sums
zeros = table (λ place. 0)

-- place by place
unfoldable pub plus : Sums → Sums → Sums
plus s t = table (λ place. at s place + at t place)

-- so much at one place, and 0 at all others
unfoldable pub only : ℕ → ℕ → Sums
only here amount = table (λ place. if place == here then amount else 0)

-- what the entries add to the counter at a place; a place without a counter stays at 0
abbrev pub sum_at : List WordAddr → List Entry → ℕ → ℕ
sum_at words entries place = option_map_or (λ word. named entries word.0) (slice_get words place) 0

-- what the entries add to each of these counters
unfoldable pub sums : List WordAddr → List Entry → Sums
sums words entries = table (sum_at words entries)
