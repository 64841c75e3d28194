use Rattle.std.proofs.Common.{◌<◌, arith, ap, length, subst, sym}
use Rattle.slice_core_spec.specs.Calls.{PartsView}
use Rattle.slice_core_spec.specs.Decision.{decision_of}
use Rattle.slice_core.specs.Facts.{IsInverted, IsSameSlice, LeavesVictim}
use Rattle.slice_core.specs.Sound.{IsSound}
use Rattle.slice_core.proofs.Coherent.{holds}
use Rattle.slice_core.proofs.LinksInverted.{needs-issue}
use Rattle.slice_core.proofs.SoundIssue.{sound-issue}
use Rattle.slice_core.proofs.state.SliceState.issue.Given.{Over}
use Rattle.slice_core.proofs.state.SliceState.issue.Goals as goal
use Rattle.slice_core.proofs.SameSlice.{same-issue}
use Rattle.slice_core.proofs.Machine.{machine-issue}
use Rattle.slice_core.proofs.Victim.{leaves_victim}
use Rattle.slice_core_theory.specs.Shows.{Leads, issue_steps, next_of}

-- the core is one of the slice's
known : (g : Over) (c : goal.After-issue g) → c.args.core.0 < length c.self.inside.parts.view.caches
known g c =
    let cores = ap (λ (p : PartsView). length p.view.caches) c.self.view_is in
    let called = c.requires in
    omega (arith, cores, called)

-- the slice that the step leaves
sound : (g : Over) (c : goal.After-issue g) → IsSound c.issue.new.self
sound g c =
    sound-issue c.self.inside.parts c.args.core c.args.request c.issue.result c.issue.new.self c.self.invariant
    (known g c) c.issue.ensures.bounded c.issue.ensures.step

pub invariant_of-self : goal.invariant_of-self
invariant_of-self g c = sound g c

pub returns-clause-unbounded : goal.returns-clause-unbounded
returns-clause-unbounded g c inverted =
    needs-issue c.self.inside.parts c.args.core c.args.request c.issue.result c.issue.new.self c.self.invariant
    (known g c) (subst (λ (p : PartsView). IsInverted p.view c.args.core) (sym c.self.view_is) inverted)
    c.issue.ensures.step

pub returns-clause-victim : goal.returns-clause-victim
returns-clause-victim g c =
    let core = c.args.core in
    let request = c.args.request in
    subst (λ (p : PartsView). LeavesVictim (decision_of p.view core request) p.view core c.issue.result
    c.issue.new.self.view) c.self.view_is
    (leaves_victim c.self.inside.parts core request c.issue.result c.issue.new.self (known g c) c.issue.ensures.step)

pub returns-clause-machine : goal.returns-clause-machine
returns-clause-machine g c =
    subst (λ (p : PartsView).
    Leads (issue_steps (next_of p.view c.args.core c.args.request) c.issue.result) p.view c.issue.new.self.view)
    c.self.view_is
    (machine-issue c.self.inside.parts c.self.invariant c.issue.new.self c.args.core c.args.request c.issue.result
    (known g c) (sound g c) c.issue.ensures.step)

pub returns-clause-same : goal.returns-clause-same
returns-clause-same g c =
    subst (λ (p : PartsView). IsSameSlice p c.issue.new.self) c.self.view_is
    (same-issue c.self.inside.parts c.args.core c.args.request c.issue.result c.issue.new.self c.issue.ensures.step)

pub returns-clause-holds : goal.returns-clause-holds
returns-clause-holds g c = holds c.issue.new.self (sound g c)
