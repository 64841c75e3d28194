use Rattle.std.proofs.Common.{take}
use Rattle.litmus_threads.specs.Made.{AreOwners, HaveMadeAll}
use Rattle.litmus_threads.proofs.made.have_made_all.Given as goal

abbrev pub invariant-loop-core : goal.invariant-loop-core
invariant-loop-core g l =
    let setup = g.M.SystemNames.setup in
    record {
      made : HaveMadeAll setup l.threads (take l.core-index l.cores);
      owners : AreOwners setup (take l.core-index l.cores);
    }
