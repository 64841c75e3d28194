use Rattle.std.proofs.Common.{◌≡◌}
use Rattle.std.specs.Prelude.{vec_capacity}
use Rattle.mshr_file.specs.Miss.{IsMissFile}
use Rattle.slice_core_cache.proofs.Performed.{IsPerformed}
use Rattle.slice_core_cache.proofs.perform.perform.Given as goal

abbrev pub invariant-loop-done : goal.invariant-loop-done
invariant-loop-done g l = record {
  performed : IsPerformed l.first l.core l.local.0 l.count l.done (g.F.MissFile.misses l.initial.file)
      (g.F.MissFile.misses l.file)
      l.initial.block l.block l.initial.tags l.tags l.initial.log.items l.log.items;
  sound : IsMissFile (g.F.MissFile.misses l.initial.file) → IsMissFile (g.F.MissFile.misses l.file);
  bound : g.F.MissFile.bound l.file ≡ g.F.MissFile.bound l.initial.file;
  room : vec_capacity l.log ≡ vec_capacity l.initial.log;
}
