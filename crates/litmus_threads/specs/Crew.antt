-- How the cores of a machine are assigned to threads.
use Rattle.std.specs.Prelude.{◌≡◌, ℕ, Bool, not, List, filter, is_some, map}
use Rattle.core_thread_system.specs.Core.{CoreView}
use Rattle.core_thread_system.specs.declared.program.Step.{Step}
use Rattle.litmus_test.specs.declared.test.Thread.{Thread}
use Rattle.litmus_threads.specs.Program.{generator_of, program_of}
use Rattle.litmus_threads.specs.Threads.{steps_at, thread_at}

-- whether a core has a thread
abbrev pub has_thread : List Thread → CoreView → Bool
has_thread threads v = is_some (thread_at threads v.core)

-- the program of a core in a round
abbrev pub program_for : List Thread → ℕ → ℕ → CoreView → List Step
program_for threads seed round v = program_of (generator_of seed round v.core) (steps_at threads v.core)

-- The cores that have a thread are those that work, in order, each with a program of its thread and the turns that its
-- seed draws in the round. The others are idle.
pub record AreDealt (threads : List Thread) (seed round : ℕ) (cores working : List CoreView)
    (programs : List (List Step)) (idle : List CoreView) : Type 0 where
  pub working_are : working ≡ filter (has_thread threads) cores
  pub programs_are : programs ≡ map (program_for threads seed round) working
  pub idle_are : idle ≡ filter (λ v. not (has_thread threads v)) cores
