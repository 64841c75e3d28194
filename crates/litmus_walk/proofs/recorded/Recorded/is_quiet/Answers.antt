use Rattle.std.proofs.Common.{subst}
use Rattle.std.specs.Prelude.{◌↔◌, All, IsTrue}
use Rattle.slice_core_spec.specs.View.{IsQuiet}
use Rattle.litmus_walk.specs.Walk.{WalkView}
use Rattle.litmus_walk.proofs.recorded.Recorded.is_quiet.Goals as goal

pub returns : goal.returns
returns c =
    subst (λ (walk : WalkView). IsTrue c.is_quiet.result ↔ All (λ state. IsQuiet state.view) walk.slices)
    c.self.view_is c.is_quiet.ensures
