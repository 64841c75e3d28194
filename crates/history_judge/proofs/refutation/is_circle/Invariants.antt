use Rattle.std.specs.Prelude.{All}
use Rattle.slice_log.specs.Log.{initially}
use Rattle.history_judge.specs.Before.{IsBeforeIn}
use Rattle.history_judge.proofs.refutation.is_circle.Given as goal

abbrev pub invariant-loop-chain : goal.invariant-loop-chain
invariant-loop-chain l = All (λ pair. IsBeforeIn (initially l.fn.initial) l.fn.history pair.0 pair.1) l.shown.items
