use Rattle.std.proofs.Common.{nat_lt, length, ap, ◌∙◌}
use Rattle.mshr_file.specs.Miss.{targets_of}
use Rattle.slice_core_cache.proofs.Allowed.{more-front_loads}
use Rattle.slice_core_cache.proofs.perform.count_allowed.Goals as goal

pub returns-in-S-clause-left : goal.returns-in-S-clause-left
returns-in-S-clause-left g c =
    let targets = targets_of (g.F.MissFile.misses c.args.file.now) c.args.local.0 in
    rw c.in-S.is (ap (λ n. nat_lt n (length targets)) c.front_loads.ensures.count ∙ more-front_loads targets)
