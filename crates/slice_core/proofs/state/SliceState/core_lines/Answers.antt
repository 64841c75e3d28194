use Rattle.std.proofs.Common.{◌<◌, arith, ap, length}
use Rattle.slice_core.proofs.OwnLines.{own_places}
use Rattle.slice_core.proofs.state.SliceState.core_lines.Goals as goal
use Rattle.slice_core_spec.specs.Parts.{PartsView}

pub core_lines-requires-clause-own : goal.core_lines-requires-clause-own
core_lines-requires-clause-own g c =
    let cores = ap (λ (p : PartsView). length p.view.caches) c.self.view_is in
    let called = c.requires in
    let known : c.args.core.0 < length c.self.inside.parts.view.caches = omega (arith, cores, called) in
    own_places c.self.inside.parts c.self.invariant c.args.core known c.args.which
