use Rattle.std.proofs.Common.{drop}
use Rattle.std.specs.Fmt.{WritesInCalls}
use Rattle.protocol_models.specs.SmtDirectory.{entries_queries}
use Rattle.protocol_models.proofs.smt.directory.write_lines.Given as goal

-- writing the queries of the entries that are left completes the text
abbrev pub invariant-loop-entry : goal.invariant-loop-entry
invariant-loop-entry g l =
    let took = g.W.Write.write_str_gives in
    (new : g.row.W.Denot)
    → WritesInCalls took l.out (entries_queries l.exclusive (drop l.entry-index l.entries)) new
    → WritesInCalls took l.fn.out (entries_queries l.exclusive l.entries) new
