use Rattle.std.proofs.Common.{List, subst}
use Rattle.core_thread_system.specs.Core.{CoreView}
use Rattle.drain.specs.Fault.{IsFaultOf}
use Rattle.drain.proofs.auditor.audit.Goals as goal

pub returns-clause-fault : goal.returns-clause-fault
returns-clause-fault g c =
    subst (λ (cores : List CoreView). IsFaultOf g.M.SystemNames.setup cores c.in-Err.error) c.deref_mut.ensures.value
    c.in-Err.ensures.fault
