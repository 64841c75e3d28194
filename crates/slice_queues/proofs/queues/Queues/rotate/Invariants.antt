use Rattle.std.proofs.Common.{◌≡◌, ◌++◌, filter, drop, take, get_or}
use Rattle.slice_queues.specs.Line.{empty_line, has_mail}
use Rattle.slice_queues.specs.Ring.{IsQueues}
use Rattle.slice_queues.proofs.queues.Queues.rotate.Given as goal

abbrev pub invariant-loop-turn : goal.invariant-loop-turn
invariant-loop-turn l =
    let now = l.self-inside in
    let began = l.initial.self-inside in
    (now.ring.order
    ≡ drop l.turn began.ring.order
    ++ filter (λ local. has_mail (get_or began.lines local (empty_line 0))) (take l.turn began.ring.order))
    × (now.lines ≡ began.lines)
    × (now.locator ≡ began.locator)
    × IsQueues now.lines now.ring now.locator
