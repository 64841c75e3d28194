use Rattle.core_thread_system.proofs.Ran.{issue-runs}
use Rattle.core_thread_system.proofs.cores.Core.call.Goals as goal

pub returns-clause-ran : goal.returns-clause-ran
returns-clause-ran g c =
    issue-runs g.M.SystemNames.setup c.args.self.now c.args.request c.issue-answer.result c.issue-answer.new.self
    c.requires c.issue-answer.ensures.core
