use Rattle.slice_core_theory.proofs.Issued.{issue_leads}
use Rattle.slice_core_theory.proofs.machine.issue_is_steps.Goals as goal

pub returns : goal.returns
returns c = λ old new core request answer accounted known legal done.
    issue_leads old core request answer new accounted known legal done
