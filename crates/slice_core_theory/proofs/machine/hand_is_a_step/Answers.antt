use Rattle.slice_core_theory.proofs.MachineHanded.{hand_leads}
use Rattle.slice_core_theory.proofs.machine.hand_is_a_step.Goals as goal

pub returns : goal.returns
returns c = λ old new core answer accounted known done. hand_leads old new core answer accounted known done
