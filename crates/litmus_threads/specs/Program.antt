-- The program of a core that does what a thread of a litmus test says.
use Rattle.std.specs.Prelude.{ℕ, ◌+◌, ◌*◌, ◌%◌, ◌^◌, List, [], ◌∷◌}
use Rattle.address_map.specs.declared.address.CoreId.{CoreId}
use Rattle.core_thread_system.specs.declared.program.Step.{Step}
use Rattle.core_thread_system.specs.declared.program.Step.TheVariants as steps
use Rattle.litmus_test.specs.declared.test.Action.{Action}
use Rattle.litmus_test.specs.declared.test.Action.TheVariants as actions
use Rattle.rand_xoshiro.specs.SplitMix64.{splitmix_seed}
use Rattle.rand_xoshiro.specs.Xoshiro256.{of_seed, plus_plus}

-- a thread's step as a step of a core's program
abbrev pub step_of : Action → Step
step_of (actions.Access word op) = steps.Access word op
step_of actions.Settle = steps.Settle
step_of (actions.Evict line) = steps.Evict line

-- The program does the thread's steps in their order, each after some turns, at most three: the remainder of the
-- generator's next word by four.
abbrev pub program_of : List ℕ → List Action → List Step
program_of generator [] = []
program_of generator (action ∷ thread) =
    steps.Turns ((plus_plus generator).0 % 4) ∷ step_of action ∷ program_of (plus_plus generator).1 thread

-- the generator of a core's turns in a round: each round and each core has a seed of its own
abbrev pub generator_of : ℕ → ℕ → CoreId → List ℕ
generator_of seed round core = of_seed (splitmix_seed 32 ((seed + 64 * round + core.0) % 2 ^ 64))
