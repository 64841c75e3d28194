use Rattle.slice_core_exec.proofs.Begins.{caches-more}
use Rattle.slice_core_exec.proofs.parts.build.new_caches.Goals as goal

pub loop-core-preserved : goal.loop-core-preserved
loop-core-preserved g c =
    rw (c.in_ok-push.ensures.items, c.in_ok-with_file.ensures, c.in_ok-file.ensures.bound)
    (caches-more c.args.config.now (g.F.MissFile.bound c.args.empty.now) c.args.slice.0 c.loop-core.core
    c.loop-core.all.items c.loop-core.invariant)
