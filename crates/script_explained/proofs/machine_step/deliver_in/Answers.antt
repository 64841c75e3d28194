use Rattle.script_explained.proofs.SliceLemmas.{machine_kept, one_slice}
use Rattle.script_explained.proofs.machine_step.deliver_in.Goals as goal

pub invariant_of-machine : goal.invariant_of-machine
invariant_of-machine c = record {
  shaped = machine_kept c.args.machine.now.config c.args.machine.now.slices.items
      c.args.slice c.index_mut.result.now
      c.deliver.new.state c.requires c.index_mut.ensures.value c.deliver.ensures.same c.args.machine.now.shaped;
}

pub returns-clause-made : goal.returns-clause-made
returns-clause-made c =
    one_slice c.args.machine.now.slices.items c.args.slice c.index_mut.result.now c.deliver.new.state _
    c.requires c.index_mut.ensures.value c.deliver.ensures.made
