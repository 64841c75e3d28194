use Rattle.std.proofs.Common.{drop}
use Rattle.std.specs.Fmt.{WritesInCalls}
use Rattle.protocol_models.specs.SmtDirectory.{cells_of}
use Rattle.protocol_models.proofs.smt.directory.write_cells.Given as goal

-- writing the queries of the cells that are left completes the text
abbrev pub invariant-loop-case : goal.invariant-loop-case
invariant-loop-case g l =
    let took = g.W.Write.write_str_gives in
    (new : g.row.W.Denot)
    → WritesInCalls took l.out (cells_of l.exclusive l.entry (drop l.case-index l.cases)) new
    → WritesInCalls took l.fn.out (cells_of l.exclusive l.entry l.cases) new
