use Rattle.std.proofs.Common.{drop}
use Rattle.std.specs.Fmt.{WritesInCalls}
use Rattle.litmus_text.specs.JsonList.{with_commas, with_commas_from}
use Rattle.script_json.specs.Slices.{texts_of_slices}
use Rattle.script_json.proofs.slices.write_slices.Given as goal

-- once the slices that are left are written, all are
abbrev pub invariant-loop-number : goal.invariant-loop-number
invariant-loop-number g l =
    let took = g.W.Write.write_str_gives in
    let config = l.config in
    (new : g.row.W.Denot)
    → WritesInCalls took l.out (with_commas_from l.is_first
    (texts_of_slices config.cores config.lines l.number (drop l.number l.slices))) new
    → WritesInCalls took l.fn.out (with_commas (texts_of_slices config.cores config.lines 0 l.slices)) new
