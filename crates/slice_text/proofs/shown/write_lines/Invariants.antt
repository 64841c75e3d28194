use Rattle.std.proofs.Common.{drop}
use Rattle.std.specs.Fmt.{WritesInCalls}
use Rattle.std.specs.List.{flat_map, range_with_len}
use Rattle.slice_text.specs.Shown.{text_at_line}
use Rattle.slice_text.proofs.shown.write_lines.Given as goal

-- after the remaining ones all are written
abbrev pub invariant-loop-line : goal.invariant-loop-line
invariant-loop-line g l =
    let took = g.W.Write.write_str_gives in
    (new : g.row.W.Denot)
    → WritesInCalls took l.out (flat_map (λ line. text_at_line l.state.view (record { 0 = line }))
    (drop l.line (range_with_len 0 l.lines))) new
    → WritesInCalls took l.fn.out (flat_map (λ line. text_at_line l.state.view (record { 0 = line }))
    (range_with_len 0 l.lines)) new
