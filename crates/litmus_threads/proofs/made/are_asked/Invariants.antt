use Rattle.std.proofs.Common.{◌≡◌, ◌≤◌, length, take}
use Rattle.core_thread_system.specs.Core.{asked_of}
use Rattle.core_thread_system.specs.Program.{accesses_of}
use Rattle.litmus_test.specs.NamedRequest.{requests_in}
use Rattle.litmus_threads.proofs.made.are_asked.Given as goal

abbrev pub invariant-loop-step : goal.invariant-loop-step
invariant-loop-step g l = record {
  within : l.next ≤ length (asked_of l.core l.slice.0);
  asked : accesses_of (take l.next (asked_of l.core l.slice.0)) ≡ requests_in l.config l.slice.0
      (take l.step-index l.steps);
}
