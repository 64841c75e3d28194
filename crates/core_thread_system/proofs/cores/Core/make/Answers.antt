use Rattle.core_thread_system.proofs.Ran.{ran-no-access, ran-nothing}
use Rattle.core_thread_system.specs.declared.program.Step.TheVariants as steps
use Rattle.core_thread_system.proofs.cores.Core.make.Goals as goal

pub returns-in-Evict-clause-ran : goal.returns-in-Evict-clause-ran
returns-in-Evict-clause-ran g c =
    let setup = g.M.SystemNames.setup in
    let self = c.args.self.now in
    rw (c.in-Evict.is, c.evict.ensures.same)
    (ran-no-access setup self self (steps.Evict c.in-Evict.line) (λ access. access) (ran-nothing setup self))
