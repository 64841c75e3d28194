use Rattle.std.proofs.Common.{map}
use Rattle.std.specs.Fmt.{WritesInCalls}
use Rattle.std.specs.List.{zip}
use Rattle.litmus_test.specs.declared.test.NamedReply.{NamedReply}
use Rattle.litmus_test.specs.OutcomesText.{cells_of}
use Rattle.litmus_test.proofs.outcomes.text.write_names.Given as goal

-- after the remaining cells all are written
abbrev pub invariant-loop-named : goal.invariant-loop-named
invariant-loop-named g l =
    let took = g.W.Write.write_str_gives in
    (new : g.row.W.Denot)
    → WritesInCalls took l.out
    (cells_of (zip (map (λ (named : NamedReply). named.name.now) l.named-iterator.a.rest.now)
    l.named-iterator.b.rest.now)) new
    → WritesInCalls took l.fn.out (cells_of (zip (map (λ (named : NamedReply). named.name.now) l.names) l.values)) new
