-- Where the lines of one slice are: lines are dealt out to the slices in turn.
use Rattle.std.specs.Prelude.{◌≡◌, ◌⊎◌, ◌≤◌, ◌<◌, ℕ, ◌+◌, ◌*◌, ◌/◌, ◌%◌, ◌==◌, ◌&&◌, nat_lt, nat_le, Bool}
use Rattle.std.specs.Prelude.{if◌then◌else◌, Option, Some, None}
use Rattle.address_map.specs.declared.address.WordAddr.{WordAddr}
use Rattle.address_map.specs.declared.address.LineAddr.{LineAddr}
use Rattle.address_map.specs.declared.address.Local.{Local}
use Rattle.address_map.specs.declared.address.Offset.{Offset}
use Rattle.address_map.specs.declared.address.SliceId.{SliceId}
use Rattle.address_map.specs.declared.config.Config.{Config}
use Rattle.address_map.specs.Config.{slice_lines}
use Rattle.address_map.specs.Place.{line_of}

-- how many lines the slice has, how many slices there are, and which one it is
pub record Lines : Type 0 where
  pub lines : ℕ
  pub slices : ℕ
  pub slice : ℕ

-- the lines of a slice under a configuration
abbrev pub lines_of : Config → SliceId → Lines
lines_of c id = record { lines = slice_lines c; slices = c.slices; slice = id.0 }

-- a slice that a machine can have
pub record IsOfMachine (own : Lines) : Type 0 where
  pub few_slices : (own.slices ≡ 1) ⊎ (own.slices ≡ 2) ⊎ (own.slices ≡ 4)
  pub slice : own.slice < own.slices
  pub few_lines : own.lines ≤ 65536

-- the place of a line among the slice's own; a line of another slice, or past the last, has none
abbrev pub local_at : Lines → ℕ → Option Local
local_at own line =
    if line % own.slices == own.slice && nat_lt (line / own.slices) own.lines
    then Some (record { 0 = line / own.slices })
    else None

-- the line at a place
abbrev pub line_at : Lines → Local → LineAddr
line_at own local = record { 0 = local.0 * own.slices + own.slice }

-- the word at a place of the line at a place
abbrev pub word_at : Lines → Local → Offset → WordAddr
word_at own local offset = record { 0 = 8 * (line_at own local).0 + offset.0 }

-- whether a word lies past the lines of all slices
abbrev pub is_past : Lines → WordAddr → Bool
is_past own word = nat_le (own.lines * own.slices) (line_of word).0
