use Rattle.slice_log.specs.Log.{initially}
use Rattle.history_judge.specs.Before.{IsBeforeIn}
use Rattle.history_judge.proofs.refutation.shown_by.Given as goal

abbrev pub invariant-loop-step : goal.invariant-loop-step
invariant-loop-step l = IsBeforeIn (initially l.fn.initial) l.fn.history l.first l.last
