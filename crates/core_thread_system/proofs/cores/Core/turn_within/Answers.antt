use Rattle.core_thread_system.proofs.Ran.{ran-nothing, turn-runs-nothing}
use Rattle.core_thread_system.proofs.cores.Core.turn_within.Goals as goal

pub returns-then-pace-eq0-clause-ran : goal.returns-then-pace-eq0-clause-ran
returns-then-pace-eq0-clause-ran g c = ran-nothing g.M.SystemNames.setup c.args.self.now

pub returns-clause-ran : goal.returns-clause-ran
returns-clause-ran g c =
    turn-runs-nothing g.M.SystemNames.setup c.args.self.now c.turn.result c.turn.new.self c.turn.ensures
