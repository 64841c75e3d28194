use Rattle.std.proofs.Common.{◌≡◌, take}
use Rattle.litmus_script.proofs.machine.Machine.try_clone.Given as goal

abbrev pub invariant-loop-slice : goal.invariant-loop-slice
invariant-loop-slice l = l.slices.items ≡ take l.slice l.self.slices.items
