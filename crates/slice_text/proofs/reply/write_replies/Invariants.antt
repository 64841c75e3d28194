use Rattle.std.proofs.Common.{drop}
use Rattle.std.specs.Fmt.{WritesInCalls}
use Rattle.std.specs.List.{flat_map, range_with_len}
use Rattle.slice_text.specs.Shown.{text_of_replies_to}
use Rattle.slice_text.proofs.reply.write_replies.Given as goal

-- after the remaining ones all are written
abbrev pub invariant-loop-core : goal.invariant-loop-core
invariant-loop-core g l =
    let took = g.W.Write.write_str_gives in
    (new : g.row.W.Denot)
    → WritesInCalls took l.out (flat_map (λ core. text_of_replies_to l.state.view (record { 0 = core }))
    (drop l.core (range_with_len 0 l.cores))) new
    → WritesInCalls took l.fn.out (flat_map (λ core. text_of_replies_to l.state.view (record { 0 = core }))
    (range_with_len 0 l.cores)) new
