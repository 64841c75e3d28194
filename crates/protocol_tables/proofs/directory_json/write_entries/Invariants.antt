use Rattle.std.proofs.Common.{drop}
use Rattle.std.specs.Fmt.{WritesInCalls}
use Rattle.protocol_tables.specs.DirectoryJson.{entry_lines}
use Rattle.protocol_tables.proofs.directory_json.write_entries.Given as goal

-- who writes the values of the entries that are left has written all
abbrev pub invariant-loop-entry : goal.invariant-loop-entry
invariant-loop-entry g l =
    let took = g.W.Write.write_str_gives in
    (new : g.row.W.Denot)
    → WritesInCalls took l.out (entry_lines l.exclusive (drop l.entry-index l.entries)) new
    → WritesInCalls took l.fn.out (entry_lines l.exclusive l.entries) new
