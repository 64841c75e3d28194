-- The rows that are held.
use Rattle.std.specs.Prelude.{◌≡◌, ℕ, false, List, Option, Some, IsSome, nat_eq, option_map}
use Rattle.std.specs.BTreeMap.{BTreeMap, get}
use Rattle.std.specs.Cmp.Lexicographic.{pointwise}
use Rattle.std.specs.Option.{IsSomeAnd}
use Rattle.std.specs.Ordering.{nat_cmp}
use Rattle.indexmap.specs.IndexMap.{get_by}
use Rattle.program_rows.specs.declared.rows.Row.{Row}
use Rattle.program_rows.specs.declared.rows.Rows.{Rows}

-- the counts of the row with this seed, if there is one
abbrev pub counts_at : BTreeMap ℕ Row → ℕ → Option (List (Option ℕ))
counts_at rows seed = option_map (λ row. row.counts.items) (get nat_cmp rows seed)

-- a row with this seed and these counts is held, and all others as before
pub record IsHeld (seed : ℕ) (counts : List (Option ℕ)) (old new : BTreeMap ℕ Row) : Type 0 where
  pub held : counts_at new seed ≡ Some counts
  pub kept : (other : ℕ) → IsSome (get nat_cmp old other) → get nat_cmp new other ≡ get nat_cmp old other
  pub others : (other : ℕ) → nat_eq seed other ≡ false → get nat_cmp new other ≡ get nat_cmp old other

-- the row with these settings and this seed has these counts
abbrev pub HoldsRow : (settings : List ℕ) (seed : ℕ) (counts : List (Option ℕ)) → Rows → Type 0
HoldsRow settings seed counts rows =
    IsSomeAnd (get_by (λ key. pointwise nat_eq settings key.items) rows.combinations)
    (λ combination. counts_at combination.rows seed ≡ Some counts)
