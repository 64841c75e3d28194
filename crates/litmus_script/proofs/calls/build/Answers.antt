use Rattle.litmus_script.proofs.MachineLemmas.{of_new}
use Rattle.litmus_script.proofs.calls.build.Goals as goal

pub returns-clause-slice : goal.returns-clause-slice
returns-clause-slice c = of_new c.args.config.now _ _ c.in_ok-state.state c.in_ok-state.ensures.new
