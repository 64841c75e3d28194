use Rattle.std.proofs.Common.{◌<◌, arith, ap, length}
use Rattle.slice_core.proofs.OwnLines.{own_places}
use Rattle.slice_core.proofs.state.SliceState.last_written_back.Goals as goal
use Rattle.slice_core_spec.specs.Parts.{PartsView}
use Rattle.slice_core_exec.specs.declared.core_lines.CoreLines.TheVariants as core_lines

pub last_written_back-requires-clause-own : goal.last_written_back-requires-clause-own
last_written_back-requires-clause-own g c =
    let cores = ap (λ (p : PartsView). length p.view.caches) c.self.view_is in
    let called = c.requires in
    let known : c.args.core.0 < length c.self.inside.parts.view.caches = omega (arith, cores, called) in
    own_places c.self.inside.parts c.self.invariant c.args.core known core_lines.Leaving
