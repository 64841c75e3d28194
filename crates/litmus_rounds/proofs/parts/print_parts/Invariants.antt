use Rattle.std.proofs.Common.{◌-◌, ◌≤◌, All}
use Rattle.mshr_file.specs.Miss.{bound_of}
use Rattle.litmus_rounds.specs.Parts.{ArePrinted, IsPartOf}
use Rattle.litmus_rounds.proofs.parts.print_parts.Given as goal

-- the parts of the rounds that are done are printed
abbrev pub invariant-loop-done : goal.invariant-loop-done
invariant-loop-done g l = record {
  within : l.done ≤ l.rounds;
  printed : All (IsPartOf l.test (bound_of l.test.misses l.test.config)) l.known
      → ArePrinted l.test (bound_of l.test.misses l.test.config) l.sum l.done l.seed l.most
      (g.W.Write.contents l.fn.out) (g.W.Write.contents l.out);
}

abbrev pub decreases-loop-done : goal.decreases-loop-done
decreases-loop-done g l = l.rounds - l.done
