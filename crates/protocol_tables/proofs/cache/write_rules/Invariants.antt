use Rattle.std.proofs.Common.{drop}
use Rattle.std.specs.Fmt.{WritesInCalls}
use Rattle.protocol_tables.specs.Cache.{columns_of, rules_of}
use Rattle.protocol_tables.proofs.cache.write_rules.Given as goal

-- who writes the rules that are left has written all
abbrev pub invariant-loop : goal.invariant-loop
invariant-loop g l =
    let took = g.W.Write.write_str_gives in
    (new : g.row.W.Denot) → WritesInCalls took l.out (rules_of (columns_of (drop l.index l.columns))) new
    → WritesInCalls took l.fn.out (rules_of (columns_of l.columns)) new
