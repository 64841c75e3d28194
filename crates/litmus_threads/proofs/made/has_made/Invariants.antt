use Rattle.drain.specs.Owned.{HasItsOwn}
use Rattle.litmus_threads.specs.Made.{HasMadeBelow}
use Rattle.litmus_threads.proofs.made.has_made.Given as goal

abbrev pub invariant-loop-slice : goal.invariant-loop-slice
invariant-loop-slice g l =
    let setup = g.M.SystemNames.setup in
    record {
      made : HasMadeBelow setup l.slice l.steps l.core;
      own : HasItsOwn setup l.slice l.core;
    }
