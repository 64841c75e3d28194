use Rattle.std.proofs.lemmas.List.Elements.{All-push}
use Rattle.history_judge.specs.Writers.{IsTableOf}
use Rattle.history_judge.specs.declared.writers.Row.{Row}
use Rattle.history_judge.proofs.writers.Tables.of.Goals as goal
use Rattle.history_judge.proofs.writers.Tables.of.Goals.{then-is_none+in_ok-writers+in_ok-push, else-is_none}

pub loop-access-preserved : goal.loop-access-preserved
loop-access-preserved c = elim c.if-is_none.branch [
  | then-is_none+in_ok-writers+in_ok-push w ↦
      rw w.tables-is (record {
        each =
            rw w.in_ok-push.ensures.items
            (All-push (λ (row : Row). IsTableOf row.writers row.word.0 c.args.history.now)
            c.loop-access.tables.rows.items _ c.loop-access.invariant.each w.in_ok-writers.ensures);
      })
  | else-is_none w ↦ rw w.tables-is c.loop-access.invariant
]
