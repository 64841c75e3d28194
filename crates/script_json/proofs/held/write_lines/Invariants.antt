use Rattle.std.proofs.Common.{drop}
use Rattle.std.specs.Fmt.{WritesInCalls}
use Rattle.std.specs.List.{range_with_len}
use Rattle.litmus_text.specs.JsonList.{with_commas_from}
use Rattle.script_json.specs.Held.{lines_from, texts_of}
use Rattle.script_json.proofs.held.write_lines.Given as goal

-- once the lines that are left are written, all are
abbrev pub invariant-loop-number : goal.invariant-loop-number
invariant-loop-number g l =
    let took = g.W.Write.write_str_gives in
    let config = l.machine.config in
    let slices = l.machine.slices.items in
    (new : g.row.W.Denot)
    → WritesInCalls took l.out (with_commas_from l.is_first (texts_of l.choice config slices
    (drop l.number (range_with_len 0 config.lines)))) new
    → WritesInCalls took l.fn.out (lines_from l.fn.is_first l.choice config slices) new
