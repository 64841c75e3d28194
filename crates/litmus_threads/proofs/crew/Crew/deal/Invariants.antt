use Rattle.std.specs.Prelude.{map}
use Rattle.core_thread_system.specs.Core.{core_of}
use Rattle.litmus_threads.specs.Crew.{AreDealt}
use Rattle.litmus_threads.proofs.crew.Crew.deal.Given as goal

abbrev pub invariant-loop-set : goal.invariant-loop-set
invariant-loop-set g l =
    AreDealt l.threads l.seed l.round (map core_of l.yielded) (map (λ job. job.core) l.crew.jobs.items)
    (map (λ job. job.program.items) l.crew.jobs.items) l.crew.idle.items
