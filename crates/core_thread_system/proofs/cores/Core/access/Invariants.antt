use Rattle.std.specs.Prelude.{[]}
use Rattle.core_thread_system.specs.Moves.{HasRun}
use Rattle.core_thread_system.proofs.cores.Core.access.Given as goal

abbrev pub invariant-loop : goal.invariant-loop
invariant-loop g l = HasRun g.M.SystemNames.setup l.fn.self [] l.self
