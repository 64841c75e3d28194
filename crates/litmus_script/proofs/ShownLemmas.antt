-- A trace, in the pieces in which it is written.
use Rattle.std.proofs.Common.{◌≡◌, ℕ, List, ◌++◌, map, ap}
use Rattle.std.proofs.lemmas.Grind.{flat_map-append}
use Rattle.address_map.specs.declared.address.WordAddr.{WordAddr}
use Rattle.litmus_text.specs.Line.{line_of_parts}
use Rattle.slice_log.specs.declared.entry.Entry.{Entry}
use Rattle.trace_check.specs.TraceLine.{parts_of_first, parts_of_line}
use Rattle.trace_check.specs.declared.trace_line.TraceLine.{TraceLine}
use Rattle.trace_check.specs.declared.trace_line.TraceLine.TheVariants as trace_lines
use Rattle.litmus_script.specs.Shown.{text_of_lines, text_of_trace, version_for}

-- the first line, the values that words begin with, and what was performed
pub trace_text : (cores : ℕ) (init : List (WordAddr × ℕ)) (log : List Entry) → text_of_trace cores init log ≡
    line_of_parts (parts_of_first (version_for cores log))
    ++ (text_of_lines (map (λ pair. trace_lines.Init pair.0 pair.1) init)
    ++ text_of_lines (map trace_lines.Entry log))
trace_text cores init log =
    ap (λ (rest : List ℕ). line_of_parts (parts_of_first (version_for cores log)) ++ rest)
    (flat_map-append (λ (line : TraceLine). line_of_parts (parts_of_line line))
    (map (λ (pair : WordAddr × ℕ). trace_lines.Init pair.0 pair.1) init)
    (map trace_lines.Entry log))
