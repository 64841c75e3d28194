use Rattle.core_thread_system.proofs.Ran.{ran-nothing, still-ran-nothing}
use Rattle.core_thread_system.proofs.cores.Core.turns.Goals as goal

pub loop-init : goal.loop-init
loop-init g c = ran-nothing g.M.SystemNames.setup c.args.self.now

pub loop-preserved : goal.loop-preserved
loop-preserved g c =
    still-ran-nothing g.M.SystemNames.setup c.args.self.now c.loop.self c.turn_within.new.self c.loop.invariant
    c.turn_within.ensures.ran

pub returns-in_err-turn_within-clause-ran : goal.returns-in_err-turn_within-clause-ran
returns-in_err-turn_within-clause-ran g c =
    still-ran-nothing g.M.SystemNames.setup c.args.self.now c.loop.self c.turn_within.new.self c.loop.invariant
    c.turn_within.ensures.ran
