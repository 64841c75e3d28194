use Rattle.slice_core_theory.proofs.Runs.{leads-on}
use Rattle.slice_core_theory.proofs.machine.runs_go_on.Goals as goal

pub returns : goal.returns
returns c = λ u v w first second one other. leads-on u v w first second one other
