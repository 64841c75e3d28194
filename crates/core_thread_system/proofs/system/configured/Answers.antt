-- The ports of a slice that is there are said of the named configuration, which is this one.
use Rattle.std.proofs.Common.{rules}
use Rattle.core_thread_system.proofs.system.configured.Goals as goal

pub returns-in_ok-built : goal.returns-in_ok-built
returns-in_ok-built g c = record {
  there = search rules;
  fresh = rw c.requires.setup c.in_ok-built.ensures.ports;
}
