use Rattle.std.proofs.Common.{drop}
use Rattle.std.specs.Fmt.{WritesInCalls}
use Rattle.std.specs.List.{flat_map, range_with_len, slice_get}
use Rattle.litmus_text.specs.JsonList.{with_commas_from}
use Rattle.script_json.specs.Slices.{list_of_ring, ring_at}
use Rattle.slice_core_spec.specs.Parts.{ring_lines}
use Rattle.script_json.proofs.slices.write_ring.Given as goal

-- once the lines that are left are written, all are
abbrev pub invariant-loop-place : goal.invariant-loop-place
invariant-loop-place g l =
    let took = g.W.Write.write_str_gives in
    (new : g.row.W.Denot)
    → WritesInCalls took l.out (with_commas_from l.is_first
    (flat_map (λ place. ring_at (slice_get (ring_lines l.state) place)) (drop l.place (range_with_len 0 l.lines)))) new
    → WritesInCalls took l.fn.out (list_of_ring l.state l.lines) new
