use Rattle.std.proofs.Common.{◌≡◌, drop}
use Rattle.script_prompt.specs.Next.{next_of_all, or_next}
use Rattle.script_prompt.proofs.machine.next_of_all.Given as goal

abbrev pub invariant-loop-state : goal.invariant-loop-state
invariant-loop-state l = next_of_all l.fn.slices ≡ or_next l.found (next_of_all (drop l.state-index l.fn.slices))
