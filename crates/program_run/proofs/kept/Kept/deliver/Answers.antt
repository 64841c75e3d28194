use Rattle.std.proofs.Common.{subst, sym}
use Rattle.address_map.specs.declared.address.CoreId.{CoreId}
use Rattle.program_run.specs.Kept.{KeepsOthers}
use Rattle.program_run.proofs.KeptLemmas.{delivery_idle, delivery_leaves}
use Rattle.program_run.proofs.kept.Kept.deliver.Goals as goal

pub returns-clause-kept : goal.returns-clause-kept
returns-clause-kept c =
    let config = c.args.machine.now.config in
    let old = c.args.machine.now.slices.items in
    let new = c.deliver.new.self.slices.items in
    let others = delivery_leaves config _ c.args.pick c.deliver.result old new c.deliver.ensures.answered in
    record {
      decided = c.forget.ensures.decided config old new c.requires.decided
          (subst (λ (core : CoreId). KeepsOthers config core old new) (sym c.core_of.ensures) others);
      idle = rw c.forget.ensures.idle
          (delivery_idle _ c.args.pick c.deliver.result old new c.args.self.now.idle.items c.deliver.ensures.answered
          c.requires.idle);
    }
