use Rattle.program_run.specs.Run.{usage_of}
use Rattle.program_run.proofs.UsageLemmas.{one_listed}
use Rattle.program_run.proofs.runner.list_usages.Goals as goal

pub loop-core-preserved : goal.loop-core-preserved
loop-core-preserved c =
    let usage = rw c.as_slice.ensures.value at c.usage_of.ensures in
    one_listed (usage_of c.args.programs.now.cores.items c.args.places.now) _ _ c.loop-core.core
    c.loop-core.invariant (rw usage at c.in_ok-push.ensures.items)
