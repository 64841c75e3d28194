use Rattle.std.proofs.Common.{◌<◌, arith, ap, length, subst}
use Rattle.slice_core_spec.specs.Calls.{PartsView}
use Rattle.slice_core.specs.Facts.{IsSameSlice}
use Rattle.slice_core.specs.Sound.{IsSound}
use Rattle.slice_core.proofs.AccountsFacts.{handed-core}
use Rattle.slice_core.proofs.Coherent.{holds}
use Rattle.slice_core.proofs.SoundEvict.{sound-hand}
use Rattle.slice_core.proofs.state.SliceState.hand.Given.{Over}
use Rattle.slice_core.proofs.state.SliceState.hand.Goals as goal
use Rattle.slice_core.proofs.SameSlice.{same-hand}
use Rattle.slice_core.proofs.Machine.{machine-hand}
use Rattle.slice_core_theory.specs.Shows.{Leads, hand_steps}

-- the core is one of the slice's
known : (g : Over) (c : goal.After-hand g) → c.args.core.0 < length c.self.inside.parts.view.caches
known g c =
    let cores = ap (λ (p : PartsView). length p.view.caches) c.self.view_is in
    let called = c.requires in
    omega (arith, cores, called)

-- the slice that the step leaves
sound : (g : Over) (c : goal.After-hand g) → IsSound c.hand.new.self
sound g c =
    sound-hand c.self.inside.parts c.args.core c.hand.result c.hand.new.self c.self.invariant (known g c)
    c.hand.ensures

pub invariant_of-self : goal.invariant_of-self
invariant_of-self g c = sound g c

pub returns-clause-core : goal.returns-clause-core
returns-clause-core g c =
    handed-core c.self.inside.parts c.self.invariant c.args.core c.hand.result c.hand.new.self (known g c)
    c.hand.ensures

pub returns-clause-machine : goal.returns-clause-machine
returns-clause-machine g c =
    subst (λ (p : PartsView). Leads (hand_steps c.hand.result) p.view c.hand.new.self.view) c.self.view_is
    (machine-hand c.self.inside.parts c.self.invariant c.hand.new.self c.args.core c.hand.result (known g c)
    c.hand.ensures)

pub returns-clause-same : goal.returns-clause-same
returns-clause-same g c =
    subst (λ (p : PartsView). IsSameSlice p c.hand.new.self) c.self.view_is
    (same-hand c.self.inside.parts c.args.core c.hand.result c.hand.new.self c.hand.ensures)

pub returns-clause-holds : goal.returns-clause-holds
returns-clause-holds g c = holds c.hand.new.self (sound g c)
