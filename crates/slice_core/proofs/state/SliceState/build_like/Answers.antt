use Rattle.slice_core.proofs.Coherent.{holds}
use Rattle.slice_core.proofs.SoundBegin.{sound-begins}
use Rattle.slice_core.proofs.state.SliceState.build_like.Goals as goal
use Rattle.slice_core_theory.proofs.MachineBeginning.{new_shows}

pub invariant_of-result : goal.invariant_of-result
invariant_of-result g c =
    sound-begins c.args.config.now _ c.args.slice c.in_ok-new.field-0 c.in_ok-new.ensures c.requires.slice

pub returns-clause-machine : goal.returns-clause-machine
returns-clause-machine g c = new_shows c.args.config.now _ c.args.slice c.in_ok-new.field-0 c.in_ok-new.ensures

pub returns-clause-holds : goal.returns-clause-holds
returns-clause-holds g c =
    holds c.in_ok-new.field-0
    (sound-begins c.args.config.now _ c.args.slice c.in_ok-new.field-0 c.in_ok-new.ensures c.requires.slice)
