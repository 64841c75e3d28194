-- What a memory of events keeps.
use Rattle.std.specs.Prelude.{◌≡◌, ℕ, Bool, ◌+◌, ◌*◌, ◌<◌, List, slice_index_or}
use Rattle.address_map.specs.CoreSet.{has}
use Rattle.program_run.specs.Cause.{fate_of, is_written_since}
use Rattle.program_run.specs.declared.cause.Event.{Event}
use Rattle.program_run.specs.declared.cause.Event.TheVariants as events
use Rattle.program_run.specs.declared.cause.Fate.{Fate}
use Rattle.program_run.specs.declared.cause.Fate.TheVariants as fates
use Rattle.program_run.specs.declared.memory.Memory.{Memory}

-- what is kept of a core and a line, and of a core and a word
abbrev pub fate_in : Memory → ℕ → ℕ → Fate
fate_in memory core line = slice_index_or memory.fates.items (line * 64 + core) fates.Never

abbrev pub written_in : Memory → ℕ → ℕ → Bool
written_in memory core word = has (slice_index_or memory.written.items word 0) core

-- the memory has a place for what the event names
abbrev pub HasPlace : ℕ → Event → Type 0
HasPlace lines (events.Took core line) = (core.0 < 64) × (line.0 < lines)
HasPlace lines (events.GaveUp core line) = (core.0 < 64) × (line.0 < lines)
HasPlace lines (events.Lost core line) = (core.0 < 64) × (line.0 < lines)
HasPlace lines (events.Wrote core word) = (core.0 < 64) × (word.0 < lines * 8)

-- The memory keeps what the events come to, for each core and each of its lines and words.
pub record Recalls (before : List Event) (memory : Memory) : Type 0 where
  pub fates : (core line : ℕ) → core < 64 → line < memory.lines → fate_in memory core line ≡ fate_of core line before
  pub written : (core word : ℕ) → core < 64 → word < memory.lines * 8
      → written_in memory core word ≡ is_written_since core word before
