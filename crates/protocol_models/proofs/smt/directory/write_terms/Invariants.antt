use Rattle.std.proofs.Common.{drop}
use Rattle.std.specs.Fmt.{WritesInCalls}
use Rattle.protocol_models.specs.SmtDirectory.{entries_terms}
use Rattle.protocol_models.proofs.smt.directory.write_terms.Given as goal

-- writing the entries that are left completes the text
abbrev pub invariant-loop-entry : goal.invariant-loop-entry
invariant-loop-entry g l =
    let took = g.W.Write.write_str_gives in
    (new : g.row.W.Denot)
    → WritesInCalls took l.out (entries_terms (drop l.entry-index l.entries)) new
    → WritesInCalls took l.fn.out (entries_terms l.entries) new
