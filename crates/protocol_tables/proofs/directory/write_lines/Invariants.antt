use Rattle.std.proofs.Common.{drop}
use Rattle.std.specs.Fmt.{WritesInCalls}
use Rattle.protocol_tables.specs.Directory.{lines_of}
use Rattle.protocol_tables.proofs.directory.write_lines.Given as goal

-- who writes the lines that are left has written all
abbrev pub invariant-loop-holders : goal.invariant-loop-holders
invariant-loop-holders g l =
    let took = g.W.Write.write_str_gives in
    (new : g.row.W.Denot)
    → WritesInCalls took l.out (lines_of l.exclusive (drop l.holders-index l.all)) new
    → WritesInCalls took l.fn.out (lines_of l.exclusive l.all) new
