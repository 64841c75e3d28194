use Rattle.rand_xoshiro.specs.SplitMix64.{splitmix_seed}
use Rattle.rand_xoshiro.specs.Xoshiro256.{of_seed}
use Rattle.litmus_walk.specs.Done.{GoesOn, steps_of}
use Rattle.litmus_walk.specs.Moves.{state_of}
use Rattle.litmus_walk.specs.Walk.{Walks}
use Rattle.litmus_walk.proofs.DrawLemmas.{HasMade}
use Rattle.litmus_walk.proofs.round.walk_on.Given as goal

abbrev pub invariant-loop-made : goal.invariant-loop-made
invariant-loop-made l = record {
  walks : Walks l.test.threads.items l.fn.walker.recorded l.walker.recorded;
  done : GoesOn l.test.threads.items (steps_of l.fn.walker.places.items) l.fn.walker.recorded.calls
      (steps_of l.walker.places.items) l.walker.recorded.calls;
  made : HasMade l.test.threads.items l.lines (of_seed (splitmix_seed 32 l.seed)) l.generator l.made
      (state_of l.fn.walker.recorded l.fn.walker.places.items l.fn.walker.replies.items)
      (state_of l.walker.recorded l.walker.places.items l.walker.replies.items);
}
