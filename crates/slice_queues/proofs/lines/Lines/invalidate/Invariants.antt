use Rattle.std.proofs.Common.{◌≡◌, get_or, length}
use Rattle.std.proofs.Math.ListN.{set}
use Rattle.address_map.specs.CoreSet.{members}
use Rattle.slice_queues.specs.Line.{empty_line}
use Rattle.slice_queues.proofs.InvalidateLaws.{after_each, EachTakes}
use Rattle.slice_queues.proofs.lines.Lines.invalidate.Given as goal

abbrev pub invariant-loop-core : goal.invariant-loop-core
invariant-loop-core l =
    let line = get_or l.self l.local.0 (empty_line 0) in
    let began = get_or l.initial.self l.local.0 (empty_line 0) in
    (after_each l.requester (members l.left) line ≡ after_each l.requester (members l.initial.left) began)
    × EachTakes l.requester (members l.left) line
    × (l.self ≡ set l.initial.self l.local.0 line)

abbrev pub decreases-loop-core : goal.decreases-loop-core
decreases-loop-core l = length (members l.left)
