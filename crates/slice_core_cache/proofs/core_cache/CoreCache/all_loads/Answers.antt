use Rattle.mshr_file.specs.Miss.{targets_of}
use Rattle.slice_core_cache.proofs.Allowed.{all-front_loads}
use Rattle.slice_core_cache.proofs.core_cache.CoreCache.all_loads.Goals as goal

pub returns : goal.returns
returns g c =
    rw (c.front_loads.ensures.count, c.waiting.ensures.count, ← c.self.view_is)
    (all-front_loads (targets_of (g.F.MissFile.misses c.self.inside.file) c.args.local.0))
