use Rattle.std.proofs.Common.{length, map}
use Rattle.std.specs.Fmt.{WritesInCalls}
use Rattle.litmus_text.specs.JsonList.{with_commas, with_commas_from}
use Rattle.slice_json.specs.Message.{text_at}
use Rattle.slice_json.proofs.message.write_fronts.Given as goal

-- after the remaining messages all are written
abbrev pub invariant-loop-channel : goal.invariant-loop-channel
invariant-loop-channel g l =
    let took = g.W.Write.write_str_gives in
    (new : g.row.W.Denot)
    → WritesInCalls took l.out (with_commas_from l.is_first (map (text_at l.state.view l.line) l.left)) new
    → WritesInCalls took l.fn.out (with_commas (map (text_at l.state.view l.line) l.fn.waiting)) new

abbrev pub decreases-loop-channel : goal.decreases-loop-channel
decreases-loop-channel g l = length l.left
