use Rattle.std.proofs.Common.{◌≡◌, ◌++◌, drop}
use Rattle.litmus_threads.specs.Program.{program_of}
use Rattle.litmus_threads.proofs.program.program_of.Given as goal

-- the program so far, and that of the steps which are left
abbrev pub invariant-loop-step : goal.invariant-loop-step
invariant-loop-step l = program_of l.fn.words l.steps ≡ l.program.items ++ program_of l.words (drop l.step-index l.steps)
