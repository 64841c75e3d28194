use Rattle.std.proofs.Common.{◌≡◌, ℕ, false, ◌<◌, ◌/◌, ◌%◌, ◌==◌, ◌&&◌, nat_lt, if◌then◌else◌}
use Rattle.program_run.specs.Memory.{written_in}
use Rattle.program_run.proofs.memory.Memory.forget_writes.Given as goal

abbrev pub invariant-loop-offset : goal.invariant-loop-offset
invariant-loop-offset l =
    (l.self.lines ≡ l.fn.self.lines) × (l.self.fates ≡ l.fn.self.fates)
    × ((c w : ℕ) → c < 64 → written_in l.self c w
    ≡ (if l.core.0 == c && (l.line.0 == w / 8 && nat_lt (w % 8) l.offset) then false else written_in l.fn.self c w))
