use Rattle.std.proofs.Common.{ℕ, ◌<◌, get_or}
use Rattle.slice_core_spec.specs.Calls.{PartsView}
use Rattle.slice_core_spec.specs.View.{IsQuiet}
use Rattle.litmus_script.proofs.machine.Machine.is_quiet.Given as goal

abbrev pub invariant-loop-state : goal.invariant-loop-state
invariant-loop-state l =
    (k : ℕ) (d : PartsView) → k < l.state-index → IsQuiet (get_or l.self.slices.items k d).view
