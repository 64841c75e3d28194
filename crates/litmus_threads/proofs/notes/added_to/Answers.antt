use Rattle.litmus_threads.proofs.Lines.{named-more}
use Rattle.litmus_threads.proofs.notes.added_to.Goals as goal

pub loop-entry-preserved : goal.loop-entry-preserved
loop-entry-preserved c =
    named-more c.args.log.now c.loop-entry.entry-index _ c.args.word.0 _ _ c.loop-entry-test.true
    c.loop-entry.invariant c.added_by-sum.ensures
