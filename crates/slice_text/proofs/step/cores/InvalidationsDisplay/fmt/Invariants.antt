use Rattle.std.proofs.Common.{length}
use Rattle.std.specs.Fmt.{HasWritten, IsPlainFormatter}
use Rattle.std.specs.declared.fmt.Formatter.{Formatter}
use Rattle.address_map.specs.CoreSet.{members}
use Rattle.slice_text.specs.Cores.{text_of_invalidations}
use Rattle.slice_text.proofs.step.cores.InvalidationsDisplay.fmt.Given as goal

-- after the invalidations of the remaining cores all are written
abbrev pub invariant-loop-core : goal.invariant-loop-core
invariant-loop-core g l =
    let took = g.W.Write.write_str_gives in
    IsPlainFormatter l.fn.f
    → IsPlainFormatter l.f
    × ((new : Formatter g.row.W.Denot) → HasWritten took l.f (text_of_invalidations (members l.rest)) new
    → HasWritten took l.fn.f (text_of_invalidations (members l.fn.self.0)) new)

abbrev pub decreases-loop-core : goal.decreases-loop-core
decreases-loop-core g l = length (members l.rest)
