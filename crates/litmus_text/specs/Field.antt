-- The first words of the lines that configure a machine, and the numbers that some of them set.
use Rattle.std.specs.Prelude.{◌≡◌, ℕ, List, codes}
use Rattle.address_map.specs.declared.config.Config.{Config}
use Rattle.litmus_text.specs.declared.field.Count.{Count}
use Rattle.litmus_text.specs.declared.field.Count.TheVariants as counts
use Rattle.litmus_text.specs.declared.field.Field.{Field}
use Rattle.litmus_text.specs.declared.field.Field.TheVariants as fields

abbrev pub name_of : Field → List ℕ
name_of (fields.Count counts.Cores) = codes "cores"
name_of (fields.Count counts.Slices) = codes "slices"
name_of (fields.Count counts.Lines) = codes "lines"
name_of (fields.Count counts.Sets) = codes "sets"
name_of (fields.Count counts.Ways) = codes "ways"
name_of (fields.Count counts.Mshrs) = codes "mshrs"
name_of (fields.Count counts.Targets) = codes "targets"
name_of (fields.Count counts.Writebacks) = codes "writebacks"
name_of fields.Policy = codes "policy"
name_of fields.Misses = codes "misses"
name_of fields.Exclusive = codes "exclusive"
name_of fields.Init = codes "init"
name_of fields.Counter = codes "counter"

-- the word names a field
abbrev pub IsFieldName : List ℕ → Type 0
IsFieldName name = (field : Field) × (name ≡ name_of field)

-- the configuration with this number set
abbrev pub with_count : Config → Count → ℕ → Config
with_count config counts.Cores n = record config { cores = n }
with_count config counts.Slices n = record config { slices = n }
with_count config counts.Lines n = record config { lines = n }
with_count config counts.Sets n = record config { sets = n }
with_count config counts.Ways n = record config { ways = n }
with_count config counts.Mshrs n = record config { mshrs = n }
with_count config counts.Targets n = record config { targets = n }
with_count config counts.Writebacks n = record config { writebacks = n }
