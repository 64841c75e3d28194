use Rattle.std.proofs.Common.{drop}
use Rattle.std.specs.Fmt.{WritesInCalls}
use Rattle.slice_text.specs.Shown.{text_of_machine, text_of_slices}
use Rattle.slice_text.proofs.shown.write_slices.Given as goal

-- after the remaining slices all are written
abbrev pub invariant-loop-number : goal.invariant-loop-number
invariant-loop-number g l =
    let took = g.W.Write.write_str_gives in
    (new : g.row.W.Denot)
    → WritesInCalls took l.out (text_of_slices l.config.cores l.config.lines l.number (drop l.number l.slices)) new
    → WritesInCalls took l.fn.out (text_of_machine l.config l.slices) new
