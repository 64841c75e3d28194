use Rattle.slice_core_theory.proofs.MachineBeginning.{new_shows}
use Rattle.slice_core_theory.proofs.machine.new_slice_shows_nothing.Goals as goal

pub returns : goal.returns
returns c = λ config bound slice p is. new_shows config bound slice p is
