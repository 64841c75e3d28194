use Rattle.std.proofs.Common.{◌≡◌, ◌<◌, ℕ, get_or, length}
use Rattle.program_run.proofs.kept.Kept.forget_slices.Given as goal

-- nothing is known of the slices so far
abbrev pub invariant-loop-slice : goal.invariant-loop-slice
invariant-loop-slice l =
    (length l.self.idle.items ≡ length l.fn.self.idle.items)
    × ((slice : ℕ) → slice < l.slice → get_or l.self.idle.items slice 0 ≡ 0)
    × (l.self.decided ≡ l.fn.self.decided)
