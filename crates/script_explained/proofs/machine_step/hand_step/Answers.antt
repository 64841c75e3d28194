use Rattle.std.proofs.Common.{refl}
use Rattle.script_explained.proofs.machine_step.hand_step.Goals as goal

pub returns-clause-step : goal.returns-clause-step
returns-clause-step c = record { of_command = refl; made = c.hand-handed.ensures.answered }
