-- Slices as data: what `show` prints of each besides its lines.
use Rattle.std.specs.Prelude.{ℕ, ◌+◌, ◌*◌, ◌/◌, ◌%◌, List, [], ◌∷◌, ◌++◌, codes, decimal, slice_get, Option, Some, None}
use Rattle.std.specs.List.{flat_map, range_with_len}
use Rattle.address_map.specs.declared.address.LineAddr.{LineAddr}
use Rattle.litmus_text.specs.JsonList.{with_commas}
use Rattle.slice_core_cache.specs.CoreCache.{tag_at}
use Rattle.slice_core_cache.specs.declared.tags.TagState.{TagState}
use Rattle.slice_core_cache.specs.declared.tags.TagState.TheVariants as tag_states
use Rattle.slice_core_spec.specs.Parts.{PartsView, ring_lines}
use Rattle.slice_core_spec.specs.View.{View, cache_at}

-- ---- replies that aren't handed out

-- a reply: its core, its tag, and its number in the log
abbrev pub text_of_reply : ℕ → ℕ → ℕ → List ℕ
text_of_reply core tag number =
    codes "{\"core\":" ++ decimal core ++ codes ",\"tag\":" ++ decimal tag ++ codes ",\"number\":" ++ decimal number
    ++ codes "}"

-- .. where the tag names one
abbrev pub reply_under : ℕ → ℕ → TagState → List (List ℕ)
reply_under core tag (tag_states.Performed number) = text_of_reply core tag number ∷ []
reply_under core tag state = []

-- at a place among the tags of all cores, 64 of each
abbrev pub reply_at : View → ℕ → List (List ℕ)
reply_at v place = reply_under (place / 64) (place % 64) (tag_at (cache_at v (record { 0 = place / 64 })) (place % 64))

abbrev pub list_of_replies : View → ℕ → List ℕ
list_of_replies v cores = with_commas (flat_map (reply_at v) (range_with_len 0 (64 * cores)))

-- ---- the ring

abbrev pub ring_at : Option LineAddr → List (List ℕ)
ring_at None = []
ring_at (Some line) = decimal line.0 ∷ []

-- its lines, the front first. It has none twice, and so no more than the memory.
abbrev pub list_of_ring : PartsView → ℕ → List ℕ
list_of_ring p lines = with_commas (flat_map (λ place. ring_at (slice_get (ring_lines p) place)) (range_with_len 0 lines))

-- ---- slices

abbrev pub text_of_number : ℕ → List ℕ
text_of_number number = codes "{\"slice\":" ++ decimal number ++ codes ",\"replies\":["

-- a slice of this number, in a machine of `cores` cores and `lines` lines
abbrev pub text_of_slice : ℕ → ℕ → ℕ → PartsView → List ℕ
text_of_slice cores lines number p =
    text_of_number number ++ (list_of_replies p.view cores ++ (codes "],\"ring\":[" ++ (list_of_ring p lines ++ codes "]}")))

-- slices from this number on
abbrev pub texts_of_slices : ℕ → ℕ → ℕ → List PartsView → List (List ℕ)
texts_of_slices cores lines number [] = []
texts_of_slices cores lines number (p ∷ more) =
    text_of_slice cores lines number p ∷ texts_of_slices cores lines (number + 1) more
