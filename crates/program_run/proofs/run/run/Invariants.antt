use Rattle.rand_xoshiro.specs.SplitMix64.{splitmix_seed}
use Rattle.rand_xoshiro.specs.Xoshiro256.{of_seed}
use Rattle.program_run.specs.Kept.{Knows}
use Rattle.program_run.specs.Run.{Leads}
use Rattle.program_run.proofs.RunLemmas.{HasMade}
use Rattle.program_run.proofs.run.run.Given as goal

-- `made` moves were made, a word of the generator for each, and what is kept holds
abbrev pub invariant-loop-made : goal.invariant-loop-made
invariant-loop-made g l =
    Leads (HasMade l.fn.runner.config l.programs (of_seed (splitmix_seed 32 l.seed)) l.generator l.made l.owed.items)
    l.fn.runner l.runner
    × Knows l.fn.runner.config l.runner.slices l.kept
