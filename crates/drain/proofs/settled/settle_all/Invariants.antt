use Rattle.std.proofs.Common.{◌≡◌, map}
use Rattle.drain.proofs.SettledInTurn.{AreTried}
use Rattle.drain.specs.declared.report.CounterValue.{CounterValue}
use Rattle.drain.proofs.settled.settle_all.Given as goal

abbrev pub invariant-loop-number : goal.invariant-loop-number
invariant-loop-number g l =
    let c = g.M.SystemNames.setup in record {
      same : l.cores ≡ l.initial.cores;
      words : map (λ (counter : CounterValue). counter.word) l.counters ≡ c.counters;
      settled : AreTried c l.initial.cores l.number l.differs l.counters;
    }
