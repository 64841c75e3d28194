use Rattle.std.proofs.Common.{◌≡◌, ℕ, ◌+◌, ◌-◌, length}
use Rattle.history_text.specs.Histories.{accesses_at, inits_at}
use Rattle.history_text.proofs.histories.Histories.make_room.Given as goal

abbrev pub invariant-room : goal.invariant-room
invariant-room l =
    ((r : ℕ) → inits_at l.self r ≡ inits_at l.initial.self r)
    × ((r : ℕ) → accesses_at l.self r ≡ accesses_at l.initial.self r)
    × (l.self.extent ≡ l.initial.self.extent)

abbrev pub decreases-room : goal.decreases-room
decreases-room l = l.row + 1 - length l.self.rows.items
