use Rattle.std.proofs.Common.{length}
use Rattle.std.specs.Fmt.{WritesInCalls}
use Rattle.std.specs.List.{flat_map}
use Rattle.script_waves.specs.Values.{text_behind}
use Rattle.script_waves.proofs.channel.write_further.Given as goal

-- once the names that are left are written, all are
abbrev pub invariant-loop-channel : goal.invariant-loop-channel
invariant-loop-channel g l =
    let took = g.W.Write.write_str_gives in
    (new : g.row.W.Denot) → WritesInCalls took l.out (flat_map text_behind l.left) new
    → WritesInCalls took l.fn.out (flat_map text_behind l.fn.waiting) new

abbrev pub decreases-loop-channel : goal.decreases-loop-channel
decreases-loop-channel g l = length l.left
