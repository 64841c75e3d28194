-- The place of a word, and the word at a place.
use Rattle.std.proofs.Common.{◌≡◌, ℕ, ◌+◌, ◌*◌, ◌/◌, ◌%◌, ◌<◌, Some, refl, arith, true}
use Rattle.std.specs.Prelude.{nat_lt}
use Rattle.std.proofs.lemmas.Bool.{lt-ltb}
use Rattle.std.proofs.lemmas.Nat.{mul-add-lt, div-mul-add, mod-mul-add, div-add-mod'}
use Rattle.address_map.specs.declared.config.Config.{Config}
use Rattle.address_map.specs.declared.place.Place.{Place}
use Rattle.address_map.specs.Config.{IsAllowed, word_count}
use Rattle.address_map.specs.Place.{place_of, word_at, IsInRange}

-- All slices have the same number of lines, so the lines of all slices are all lines.
dealt_line-lt : (lines slices local slice : ℕ) → lines % slices ≡ 0
    → local < lines / slices → slice < slices → local * slices + slice < lines
dealt_line-lt lines slices local slice even inside below =
    let bound : local * slices + slice < slices * (lines / slices) =
    mul-add-lt local slices slice (lines / slices) inside below in
    omega (arith, div-add-mod' lines slices)

-- the word at a place is there
pub place_of-word_at : (c : Config) (place : Place) → IsAllowed c → IsInRange c place
    → place_of c (word_at c place) ≡ Some place
place_of-word_at c place allowed inside =
    let line = place.local.0 * c.slices + place.slice.0 in
    let line_below : line < c.lines =
    dealt_line-lt c.lines c.slices place.local.0 place.slice.0 allowed.even inside.local inside.slice in
    let below : nat_lt (8 * line + place.offset.0) (word_count c) ≡ true =
    lt-ltb (8 * line + place.offset.0) (word_count c) (omega arith) in
    let line_is : (8 * line + place.offset.0) / 8 ≡ line = omega arith in
    let offset_is : (8 * line + place.offset.0) % 8 ≡ place.offset.0 = omega arith in
    let local_is : line / c.slices ≡ place.local.0 = div-mul-add place.local.0 c.slices place.slice.0 inside.slice in
    let slice_is : line % c.slices ≡ place.slice.0 = mod-mul-add place.local.0 c.slices place.slice.0 inside.slice in
    rw (below, line_is, offset_is, local_is, slice_is) refl
