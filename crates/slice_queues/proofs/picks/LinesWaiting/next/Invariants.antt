use Rattle.std.proofs.Common.{◌≡◌, ◌≤◌, ◌-◌, drop, length, take}
use Rattle.slice_queues.specs.Waiting.{lines_left, IsAddressedFrom}
use Rattle.slice_queues.proofs.picks.LinesWaiting.next.Given as goal

abbrev pub invariant-loop-channel : goal.invariant-loop-channel
invariant-loop-channel l =
    let now = l.self-inside in
    let began = l.initial.self-inside in
    (lines_left now.slice now.slices now.line now.current now.place (drop now.place (take now.end now.lines.now))
    ≡ lines_left began.slice began.slices began.line began.current began.place
    (drop began.place (take began.end began.lines.now)))
    × (now.place ≤ now.end)
    × (now.end ≤ length now.lines.now)
    × IsAddressedFrom now.place (now.end - now.place) now.slice now.slices

abbrev pub decreases-loop-channel : goal.decreases-loop-channel
decreases-loop-channel l = l.self-inside.end - l.self-inside.place
