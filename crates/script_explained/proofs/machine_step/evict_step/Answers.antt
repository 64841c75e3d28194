use Rattle.script_explained.proofs.PlayerLemmas.{eviction_made}
use Rattle.script_explained.proofs.machine_step.evict_step.Goals as goal

pub returns-clause-step : goal.returns-clause-step
returns-clause-step c =
    let made = c.evict_in.ensures in
    eviction_made c.args.machine.now.config c.args.core c.args.line _ _ _ _ c.slice_of-slice.ensures.slice made.core
    made.line made.made
