use Rattle.std.proofs.Common.{subst}
use Rattle.slice_core.specs.Facts.{IsSameSlice}
use Rattle.slice_core.specs.Sound.{IsSound}
use Rattle.slice_core.proofs.Coherent.{holds, unbroken_next}
use Rattle.slice_core.proofs.AccountsCan.{can-deliver}
use Rattle.slice_core.proofs.SoundDelivery.{sound-deliver_next}
use Rattle.slice_core.proofs.state.SliceState.deliver_next.Given.{Over}
use Rattle.slice_core.proofs.state.SliceState.deliver_next.Goals as goal
use Rattle.slice_core.proofs.SameSlice.{same-next}
use Rattle.slice_core.proofs.Machine.{machine-next}
use Rattle.slice_core_theory.specs.Shows.{Performs}
use Rattle.slice_core_spec.specs.Calls.{PartsView}
use Rattle.slice_core_spec.specs.Turn.{ServesInTurn}

-- the slice that the step leaves
sound : (g : Over) (c : goal.After-deliver_next g) → IsSound c.deliver_next.new.self
sound g c =
    sound-deliver_next c.self.inside.parts c.self.invariant c.deliver_next.new.self c.args.class c.deliver_next.result
    c.deliver_next.ensures.step

pub deliver_next-requires : goal.deliver_next-requires
deliver_next-requires g c = can-deliver c.self.inside.parts c.self.invariant

pub invariant_of-self : goal.invariant_of-self
invariant_of-self g c = sound g c

pub returns-clause-unbroken : goal.returns-clause-unbroken
returns-clause-unbroken g c =
    unbroken_next c.self.inside.parts c.self.invariant c.deliver_next.new.self c.args.class c.deliver_next.result
    c.deliver_next.ensures.step

pub returns-clause-machine : goal.returns-clause-machine
returns-clause-machine g c =
    subst (λ (p : PartsView). Performs p.view c.deliver_next.new.self.view) c.self.view_is
    (machine-next c.self.inside.parts c.self.invariant c.deliver_next.new.self c.args.class c.deliver_next.result
    (sound g c) c.deliver_next.ensures.step)

pub returns-clause-same : goal.returns-clause-same
returns-clause-same g c =
    subst (λ (p : PartsView). IsSameSlice p c.deliver_next.new.self) c.self.view_is
    (same-next c.self.inside.parts c.args.class c.deliver_next.result c.deliver_next.new.self
    c.deliver_next.ensures.step)

pub returns-clause-holds : goal.returns-clause-holds
returns-clause-holds g c = holds c.deliver_next.new.self (sound g c)

pub returns-clause-turn : goal.returns-clause-turn
returns-clause-turn g c =
    subst (λ (p : PartsView). ServesInTurn p c.args.class c.deliver_next.result c.deliver_next.new.self) c.self.view_is
    c.deliver_next.ensures.turn
