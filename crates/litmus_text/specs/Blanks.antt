-- The blanks of a line as bits.
use Rattle.std.specs.Prelude.{◌≡◌, ℕ, ◌<◌, List, length, slice_index, if◌then◌else◌}
use Rattle.std.specs.Int.{bit_at}
use Rattle.litmus_text.specs.Text.{is_blank}

-- bit k is set where byte k of the line is a blank
abbrev pub AreBlanks : ℕ → List ℕ → Type 0
AreBlanks bits line = (k : ℕ) → k < length line → bit_at bits k ≡ (if is_blank (slice_index line k) then 1 else 0)
