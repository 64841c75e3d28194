use Rattle.std.proofs.Common.{refl}
use Rattle.litmus.proofs.views.page_of.Goals as goal

pub returns-in-Ok-clause-page : goal.returns-in-Ok-clause-page
returns-in-Ok-clause-page g c = (refl, record { is = c.in-Ok.ensures.printed })

pub returns-in-Err-clause-fault : goal.returns-in-Err-clause-fault
returns-in-Err-clause-fault g c = record { is = c.in-Err.ensures.fault }
