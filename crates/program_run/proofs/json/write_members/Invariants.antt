use Rattle.std.proofs.Common.{drop, map}
use Rattle.std.specs.Fmt.{WritesInCalls}
use Rattle.litmus_text.specs.JsonList.{with_commas_from}
use Rattle.program_run.specs.Json.{member_of, members_of}
use Rattle.program_run.proofs.json.write_members.Given as goal

-- once the members that are left are written, all are
abbrev pub invariant-loop-column : goal.invariant-loop-column
invariant-loop-column g l =
    let took = g.W.Write.write_str_gives in
    (new : g.row.W.Denot)
    → WritesInCalls took l.out (with_commas_from l.is_first (map (member_of l.counts)
    (drop l.column-index l.columns))) new
    → WritesInCalls took l.fn.out (members_of l.columns l.counts) new
