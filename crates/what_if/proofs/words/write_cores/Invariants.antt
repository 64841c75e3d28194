use Rattle.std.proofs.Common.{length}
use Rattle.address_map.specs.CoreSet.{members}
use Rattle.what_if.proofs.words.write_cores.Given as goal

abbrev pub decreases-loop-core : goal.decreases-loop-core
decreases-loop-core g l = length (members l.rest)
