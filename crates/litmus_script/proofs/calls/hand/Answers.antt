use Rattle.litmus_script.proofs.CallLemmas.{handed}
use Rattle.litmus_script.proofs.calls.hand.Goals as goal

pub returns-clause-made : goal.returns-clause-made
returns-clause-made c = handed c.args.state.now c.hand.new.self c.args.core c.hand.result c.hand.ensures.step
