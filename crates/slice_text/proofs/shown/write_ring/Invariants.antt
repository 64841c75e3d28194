use Rattle.std.proofs.Common.{drop}
use Rattle.std.specs.Fmt.{WritesInCalls}
use Rattle.std.specs.List.{flat_map, range_with_len}
use Rattle.slice_text.specs.Shown.{text_at_place}
use Rattle.slice_text.proofs.shown.write_ring.Given as goal

-- after the remaining ones all are written
abbrev pub invariant-loop-place : goal.invariant-loop-place
invariant-loop-place g l =
    let took = g.W.Write.write_str_gives in
    (new : g.row.W.Denot)
    → WritesInCalls took l.out (flat_map (text_at_place l.state) (drop l.place (range_with_len 0 l.lines))) new
    → WritesInCalls took l.fn.out (flat_map (text_at_place l.state) (range_with_len 0 l.lines)) new
