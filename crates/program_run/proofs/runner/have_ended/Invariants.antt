use Rattle.std.proofs.Common.{◌≡◌, ℕ, ◌<◌, Some, slice_get}
use Rattle.program_text.specs.declared.programs.CoreProgram.{CoreProgram}
use Rattle.program_run.specs.Run.{HasEnded}
use Rattle.program_run.proofs.runner.have_ended.Given as goal

-- each program so far has ended
abbrev pub invariant-loop-number : goal.invariant-loop-number
invariant-loop-number l =
    (k : ℕ) → k < l.number → (program : CoreProgram) → slice_get l.programs k ≡ Some program
    → HasEnded program (slice_get l.places k)
