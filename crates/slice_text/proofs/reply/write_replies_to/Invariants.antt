use Rattle.std.proofs.Common.{drop}
use Rattle.std.specs.Fmt.{WritesInCalls}
use Rattle.std.specs.List.{flat_map, range_with_len}
use Rattle.slice_text.specs.Shown.{text_under}
use Rattle.slice_text.proofs.reply.write_replies_to.Given as goal

-- after the remaining ones all are written
abbrev pub invariant-loop-tag : goal.invariant-loop-tag
invariant-loop-tag g l =
    let took = g.W.Write.write_str_gives in
    (new : g.row.W.Denot)
    → WritesInCalls took l.out (flat_map (text_under l.state.view l.core) (drop l.tag (range_with_len 0 64))) new
    → WritesInCalls took l.fn.out (flat_map (text_under l.state.view l.core) (range_with_len 0 64)) new
