use Rattle.litmus_script.proofs.CallLemmas.{evicted}
use Rattle.litmus_script.proofs.calls.evict.Goals as goal

pub returns-clause-made : goal.returns-clause-made
returns-clause-made c =
    evicted c.args.state.now c.evict.new.self c.args.core c.args.line c.evict.result c.evict.ensures.step
