-- A log as a trace.
use Rattle.std.specs.Prelude.{ℕ, nat_lt, ◌||◌, Bool, true, false, List, ◌++◌, if◌then◌else◌}
use Rattle.std.specs.List.{flat_map, list_any}
use Rattle.address_map.specs.declared.address.WordAddr.{WordAddr}
use Rattle.address_map.specs.declared.request.Op.{Op}
use Rattle.address_map.specs.declared.request.Op.TheVariants as ops
use Rattle.litmus_text.specs.Line.{line_of_parts}
use Rattle.slice_log.specs.declared.entry.Entry.{Entry}
use Rattle.trace_check.specs.Trace.{body_of}
use Rattle.trace_check.specs.TraceLine.{cores_of, parts_of_first, parts_of_line}
use Rattle.trace_check.specs.declared.trace_line.TraceLine.{TraceLine}
use Rattle.trace_check.specs.declared.trace_line.Version.{Version}
use Rattle.trace_check.specs.declared.trace_line.Version.TheVariants as versions

abbrev pub is_compare_exchange : Op → Bool
is_compare_exchange (ops.Cas expect new) = true
is_compare_exchange op = false

-- some access is a compare-exchange
abbrev pub has_compare_exchange : List Entry → Bool
has_compare_exchange log = list_any (λ (entry : Entry). is_compare_exchange entry.op) log

-- the second version of a trace, if the first can't name `cores` cores or express some access
abbrev pub version_for : ℕ → List Entry → Version
version_for cores log =
    if has_compare_exchange log || nat_lt (cores_of versions.One) cores then versions.Two else versions.One

-- these lines of a trace
abbrev pub text_of_lines : List TraceLine → List ℕ
text_of_lines lines = flat_map (λ line. line_of_parts (parts_of_line line)) lines

-- a trace: its first line, the values that words begin with, and what was performed
abbrev pub text_of_trace : ℕ → List (WordAddr × ℕ) → List Entry → List ℕ
text_of_trace cores init log =
    line_of_parts (parts_of_first (version_for cores log)) ++ text_of_lines (body_of init log)
