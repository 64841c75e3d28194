use Rattle.litmus_threads.proofs.Asked.{made-more}
use Rattle.litmus_threads.proofs.Owners.{owners-more}
use Rattle.litmus_threads.proofs.made.have_made_all.Goals as goal

pub loop-core-preserved : goal.loop-core-preserved
loop-core-preserved g c =
    let setup = g.M.SystemNames.setup in
    let cores = c.args.cores.now in
    let i = c.loop-core.core-index in
    let inside = c.loop-core-test.true in
    let so_far = c.loop-core.invariant in
    let seen = c.if-not-has_made.false in
    record {
      made =
          made-more setup c.args.threads.now cores i c.core-item.result c.core.result c.steps_at.result.now inside
          c.core-item.is c.core.ensures.core c.steps_at.ensures (c.has_made.ensures.made seen) so_far.made;
      owners =
          owners-more setup cores i c.core-item.result c.core.result inside c.core-item.is c.core.ensures.core
          c.core.ensures.known (c.has_made.ensures.own seen) so_far.owners;
    }
