use Rattle.std.proofs.Common.{subst}
use Rattle.slice_core.proofs.Fronts.{fronts-once}
use Rattle.slice_core.proofs.state.SliceState.waiting.Goals as goal
use Rattle.slice_core.specs.Facts.{HasEachFrontOnce}
use Rattle.slice_core_spec.specs.Calls.{PartsView}

pub returns-clause-once : goal.returns-clause-once
returns-clause-once g c =
    subst (λ (p : PartsView). HasEachFrontOnce p.view c.waiting.result) c.self.view_is
    (fronts-once c.self.inside.parts.view c.self.invariant.counted.shaped.lines c.waiting.result c.waiting.ensures.once)
