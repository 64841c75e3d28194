use Rattle.litmus_script.proofs.machine.Machine.build.Goals as goal

pub returns-clause-new : goal.returns-clause-new
returns-clause-new c = rw c.in_ok-empty.ensures.bound at c.in_ok-slices.ensures.new
