use Rattle.std.specs.Prelude.{◌≡◌}
use Rattle.core_thread_system.proofs.cores.Core.collect.Given as goal

abbrev pub invariant-loop-turn : goal.invariant-loop-turn
invariant-loop-turn g l = l.self ≡ l.fn.self
