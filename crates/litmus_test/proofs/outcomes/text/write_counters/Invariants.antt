use Rattle.std.proofs.Common.{map}
use Rattle.std.specs.Fmt.{WritesInCalls}
use Rattle.std.specs.List.{zip}
use Rattle.litmus_test.specs.OutcomesText.{cells_of, counter_label}
use Rattle.litmus_test.proofs.outcomes.text.write_counters.Given as goal

-- after the remaining cells all are written
abbrev pub invariant-loop-counter : goal.invariant-loop-counter
invariant-loop-counter g l =
    let took = g.W.Write.write_str_gives in
    (new : g.row.W.Denot)
    → WritesInCalls took l.out
    (cells_of (zip (map counter_label l.counter-iterator.a.rest.now) l.counter-iterator.b.rest.now)) new
    → WritesInCalls took l.fn.out (cells_of (zip (map counter_label l.counters) l.values)) new
