use Rattle.std.proofs.lemmas.Result.{IfOk-weaker}
use Rattle.script_explained.proofs.SliceLemmas.{machine_kept, one_slice}
use Rattle.script_explained.proofs.machine_step.issue_in.Goals as goal

pub invariant_of-machine : goal.invariant_of-machine
invariant_of-machine c = record {
  shaped = machine_kept c.args.machine.now.config c.args.machine.now.slices.items
      c.args.slice c.index_mut.result.now
      c.issue.new.state c.requires.slice c.index_mut.ensures.value c.issue.ensures.same c.args.machine.now.shaped;
}

pub returns-clause-made : goal.returns-clause-made
returns-clause-made c =
    IfOk-weaker c.issue.result _ _
    (λ access made. one_slice c.args.machine.now.slices.items c.args.slice c.index_mut.result.now c.issue.new.state _
    c.requires.slice c.index_mut.ensures.value made)
    c.issue.ensures.made
