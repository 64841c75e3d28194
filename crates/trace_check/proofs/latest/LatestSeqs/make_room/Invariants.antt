use Rattle.std.proofs.Common.{◌≡◌, ℕ, length}
use Rattle.trace_check.specs.Latest.{latest_of}
use Rattle.trace_check.proofs.latest.LatestSeqs.make_room.Given as goal

abbrev pub invariant-loop-place : goal.invariant-loop-place
invariant-loop-place l =
    (length l.self.lines.items ≡ l.place)
    × ((line core : ℕ) → latest_of l.self line core ≡ latest_of l.initial.self line core)
