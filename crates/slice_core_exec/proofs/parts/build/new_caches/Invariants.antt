use Rattle.slice_core_spec.specs.Initial.{AreNewCaches}
use Rattle.slice_core_exec.proofs.parts.build.new_caches.Given as goal

abbrev pub invariant-loop-core : goal.invariant-loop-core
invariant-loop-core g l = AreNewCaches l.config (g.F.MissFile.bound l.empty) l.slice.0 l.core l.all.items
