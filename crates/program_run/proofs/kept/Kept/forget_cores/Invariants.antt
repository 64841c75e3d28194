use Rattle.std.proofs.Common.{◌≡◌, ◌<◌, ℕ, length, None, Some}
use Rattle.std.specs.Prelude.{slice_get}
use Rattle.program_run.proofs.kept.Kept.forget_cores.Given as goal

-- nothing is kept of the cores so far
abbrev pub invariant-loop-place : goal.invariant-loop-place
invariant-loop-place l =
    (length l.self.decided.items ≡ length l.fn.self.decided.items)
    × ((place : ℕ) → place < l.place → slice_get l.self.decided.items place ≡ Some None)
    × (l.self.idle ≡ l.fn.self.idle)
