use Rattle.std.proofs.Common.{◌<◌, [], arith, ap, length, subst}
use Rattle.slice_core_spec.specs.Calls.{PartsView}
use Rattle.slice_core.specs.Facts.{IsSameSlice}
use Rattle.slice_core.specs.Sound.{IsSound}
use Rattle.slice_core.proofs.Coherent.{holds}
use Rattle.slice_core.proofs.SameSlice.{same-evict}
use Rattle.slice_core.proofs.SoundEvict.{sound-evict}
use Rattle.slice_core.proofs.state.SliceState.evict.Given.{Over}
use Rattle.slice_core.proofs.state.SliceState.evict.Goals as goal
use Rattle.slice_core_theory.proofs.Evicted.{evict_leads}
use Rattle.slice_core_theory.specs.Shows.{Leads}

-- the core is one of the slice's
known : (g : Over) (c : goal.After-evict g) → c.args.core.0 < length c.self.inside.parts.view.caches
known g c =
    let cores = ap (λ (p : PartsView). length p.view.caches) c.self.view_is in
    let called = c.requires in
    omega (arith, cores, called)

-- the slice that the step leaves
sound : (g : Over) (c : goal.After-evict g) → IsSound c.evict.new.self
sound g c =
    sound-evict c.self.inside.parts c.args.core c.args.line c.evict.result c.evict.new.self c.self.invariant (known g c)
    c.evict.ensures

pub invariant_of-self : goal.invariant_of-self
invariant_of-self g c = sound g c

pub returns-clause-machine : goal.returns-clause-machine
returns-clause-machine g c =
    subst (λ (p : PartsView). Leads [] p.view c.evict.new.self.view) c.self.view_is
    (evict_leads c.self.inside.parts c.args.core c.args.line c.evict.result c.evict.new.self (known g c)
    c.evict.ensures)

pub returns-clause-same : goal.returns-clause-same
returns-clause-same g c =
    subst (λ (p : PartsView). IsSameSlice p c.evict.new.self) c.self.view_is
    (same-evict c.self.inside.parts c.args.core c.args.line c.evict.result c.evict.new.self c.evict.ensures)

pub returns-clause-holds : goal.returns-clause-holds
returns-clause-holds g c = holds c.evict.new.self (sound g c)
