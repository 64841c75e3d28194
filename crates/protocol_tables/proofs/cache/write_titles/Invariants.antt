use Rattle.std.proofs.Common.{drop}
use Rattle.std.specs.Fmt.{WritesInCalls}
use Rattle.protocol_tables.specs.Cache.{columns_of, titles_of}
use Rattle.protocol_tables.proofs.cache.write_titles.Given as goal

-- who writes the titles that are left has written all
abbrev pub invariant-loop-title : goal.invariant-loop-title
invariant-loop-title g l =
    let took = g.W.Write.write_str_gives in
    (new : g.row.W.Denot) → WritesInCalls took l.out (titles_of (columns_of (drop l.title-index l.columns))) new
    → WritesInCalls took l.fn.out (titles_of (columns_of l.columns)) new
