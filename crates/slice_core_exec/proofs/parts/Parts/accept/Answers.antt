use Rattle.std.proofs.Common.{subst, sym}
use Rattle.slice_core_spec.specs.Calls.{PartsView}
use Rattle.slice_core_spec.specs.View.{IsShaped}
use Rattle.slice_core_exec.proofs.ShapedLaws.{shaped-request}
use Rattle.slice_core_exec.proofs.parts.Parts.accept.Goals as goal

pub open-requires-clause-shaped : goal.open-requires-clause-shaped
open-requires-clause-shaped g c =
    subst (λ (p : PartsView). IsShaped p.view) (sym c.replace.ensures.after)
    (shaped-request c.args.self.now.view c.args.core _ _ _ c.requires.can.shaped)
