use Rattle.slice_core_theory.proofs.Evicted.{evict_leads}
use Rattle.slice_core_theory.proofs.machine.evict_is_no_step.Goals as goal

pub returns : goal.returns
returns c = λ old new core line answer known done. evict_leads old core line answer new known done
