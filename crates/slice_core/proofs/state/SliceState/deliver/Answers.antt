use Rattle.std.proofs.Common.{subst}
use Rattle.slice_core.specs.Facts.{IsSameSlice}
use Rattle.slice_core.specs.Sound.{IsSound}
use Rattle.slice_core.proofs.Coherent.{holds, unbroken_delivery}
use Rattle.slice_core.proofs.AccountsCan.{can-deliver}
use Rattle.slice_core.proofs.SoundDelivery.{sound-delivery}
use Rattle.slice_core.proofs.state.SliceState.deliver.Given.{Over}
use Rattle.slice_core.proofs.state.SliceState.deliver.Goals as goal
use Rattle.slice_core.proofs.SameSlice.{same-deliver}
use Rattle.slice_core.proofs.Machine.{machine-deliver}
use Rattle.slice_core_theory.specs.Shows.{Performs}
use Rattle.slice_core_spec.specs.Calls.{PartsView}

-- the slice that the step leaves
sound : (g : Over) (c : goal.After-deliver g) → IsSound c.deliver.new.self
sound g c =
    sound-delivery c.self.inside.parts c.self.invariant c.deliver.new.self c.args.pick c.deliver.result
    c.deliver.ensures

pub deliver-requires : goal.deliver-requires
deliver-requires g c = can-deliver c.self.inside.parts c.self.invariant

pub invariant_of-self : goal.invariant_of-self
invariant_of-self g c = sound g c

pub returns-clause-unbroken : goal.returns-clause-unbroken
returns-clause-unbroken g c =
    unbroken_delivery c.self.inside.parts c.self.invariant c.deliver.new.self c.args.pick c.deliver.result
    c.deliver.ensures

pub returns-clause-machine : goal.returns-clause-machine
returns-clause-machine g c =
    subst (λ (p : PartsView). Performs p.view c.deliver.new.self.view) c.self.view_is
    (machine-deliver c.self.inside.parts c.self.invariant c.deliver.new.self c.args.pick c.deliver.result (sound g c)
    c.deliver.ensures)

pub returns-clause-same : goal.returns-clause-same
returns-clause-same g c =
    subst (λ (p : PartsView). IsSameSlice p c.deliver.new.self) c.self.view_is
    (same-deliver c.self.inside.parts c.args.pick c.deliver.result c.deliver.new.self c.deliver.ensures)

pub returns-clause-holds : goal.returns-clause-holds
returns-clause-holds g c = holds c.deliver.new.self (sound g c)
