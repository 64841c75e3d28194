-- The columns of the report after the core's number.
use Rattle.std.specs.Prelude.{ℕ, Bool, List, [], ◌∷◌, codes, if◌then◌else◌, slice_index}
use Rattle.slice_answer.specs.declared.answer.Stall.TheVariants.{NoRegister, NoTarget, NoWay, WriteBackFull}
use Rattle.slice_answer.specs.declared.answer.Stall.TheVariants.{WriteBackBusy}
use Rattle.slice_answer.specs.declared.stats.CoreStats.{CoreStats}
use Rattle.slice_answer.specs.Stats.{index_of_stall}
use Rattle.stats_report.specs.declared.column.Column.{Column}
use Rattle.stats_report.specs.declared.column.Column.TheVariants.{Hits, Primary, Secondary, Stall, Evictions, Silent}

-- the columns in their order: that of the silent hits is there only where the machine has the exclusive state
abbrev pub columns_of : Bool → List Column
columns_of exclusive =
    Hits ∷ Primary ∷ Secondary
    ∷ Stall NoRegister ∷ Stall NoTarget ∷ Stall NoWay ∷ Stall WriteBackFull ∷ Stall WriteBackBusy
    ∷ Evictions ∷ (if exclusive then Silent ∷ [] else [])

-- what the heading says of a column
abbrev pub name_of : Column → List ℕ
name_of Hits = codes "hits"
name_of Primary = codes "primary"
name_of Secondary = codes "secondary"
name_of (Stall NoRegister) = codes "stall1"
name_of (Stall NoTarget) = codes "stall2"
name_of (Stall NoWay) = codes "stall3"
name_of (Stall WriteBackFull) = codes "stall4"
name_of (Stall WriteBackBusy) = codes "stall5"
name_of Evictions = codes "evict"
name_of Silent = codes "silent"

-- what a column counts
abbrev pub count_in : Column → CoreStats → ℕ
count_in Hits counts = counts.hits
count_in Primary counts = counts.primary
count_in Secondary counts = counts.secondary
count_in (Stall stall) counts = slice_index counts.stalls (index_of_stall stall)
count_in Evictions counts = counts.evictions
count_in Silent counts = counts.silent
