-- Where a word is: lines are dealt out to the slices in turn, and each slice numbers its own lines from 0.
use Rattle.std.specs.Prelude.{ℕ, ◌<◌, ◌+◌, ◌*◌, ◌/◌, ◌%◌, ◌==◌, nat_lt, if◌then◌else◌, filter, Bool, List, Option, Some}
use Rattle.std.specs.Prelude.{None}
use Rattle.address_map.specs.declared.address.WordAddr.{WordAddr}
use Rattle.address_map.specs.declared.address.LineAddr.{LineAddr}
use Rattle.address_map.specs.declared.address.Local.{Local}
use Rattle.address_map.specs.declared.address.Offset.{Offset}
use Rattle.address_map.specs.declared.address.SliceId.{SliceId}
use Rattle.address_map.specs.declared.config.Config.{Config}
use Rattle.address_map.specs.declared.place.Place.{Place}
use Rattle.address_map.specs.Config.{word_count, slice_lines}

-- the line of a word, and the word's place within it: a line is eight words
abbrev pub line_of : WordAddr → LineAddr
line_of word = record { 0 = word.0 / 8 }

abbrev pub offset_of : WordAddr → Offset
offset_of word = record { 0 = word.0 % 8 }

-- the slice that has a line
abbrev pub slice_of : Config → LineAddr → SliceId
slice_of c line = record { 0 = line.0 % c.slices }

-- whether the slice of this number has the word
abbrev pub is_of_slice : Config → ℕ → WordAddr → Bool
is_of_slice c number word = word.0 / 8 % c.slices == number

-- the counters of a slice, in the configured order
abbrev pub counters_of : Config → ℕ → List WordAddr
counters_of c number = filter (is_of_slice c number) c.counters

-- the configured initial values of a slice's words, in the configured order
abbrev pub init_of : Config → ℕ → List (WordAddr × ℕ)
init_of c number = filter (λ pair. is_of_slice c number pair.0) c.init

-- the line's place among the lines of its slice
abbrev pub local_of : Config → LineAddr → Local
local_of c line = record { 0 = line.0 / c.slices }

-- the place of a word of the memory; a word past the last has none
abbrev pub place_of : Config → WordAddr → Option Place
place_of c word =
    if nat_lt word.0 (word_count c)
    then Some (record { local = local_of c (line_of word); slice = slice_of c (line_of word); offset = offset_of word })
    else None

-- a place that the memory has
pub record IsInRange (c : Config) (place : Place) : Type 0 where
  pub slice : place.slice.0 < c.slices
  pub local : place.local.0 < slice_lines c
  pub offset : place.offset.0 < 8

-- the word at a place
abbrev pub word_at : Config → Place → WordAddr
word_at c place = record { 0 = 8 * (place.local.0 * c.slices + place.slice.0) + place.offset.0 }
