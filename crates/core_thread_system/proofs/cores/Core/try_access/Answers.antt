use Rattle.core_thread_system.proofs.Ran.{ran-nothing}
use Rattle.core_thread_system.proofs.cores.Core.try_access.Goals as goal

pub returns-in_default-clause-ran : goal.returns-in_default-clause-ran
returns-in_default-clause-ran g c = ran-nothing g.M.SystemNames.setup c.args.self.now
