use Rattle.litmus_threads.proofs.Ends.{ended}
use Rattle.litmus_threads.proofs.run.play_test.Goals as goal

pub returns-clause-told : goal.returns-clause-told
returns-clause-told g c =
    ended c.args.test.now c.args.form c.in_ok-run.run' _ c.tell.result c.in_ok-run.ensures c.tell.ensures.told c.tell.ensures.status
