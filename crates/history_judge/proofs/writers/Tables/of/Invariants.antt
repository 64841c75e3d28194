use Rattle.history_judge.specs.Writers.{AreTablesOf}
use Rattle.history_judge.proofs.writers.Tables.of.Given as goal

abbrev pub invariant-loop-access : goal.invariant-loop-access
invariant-loop-access l = AreTablesOf l.tables l.history
