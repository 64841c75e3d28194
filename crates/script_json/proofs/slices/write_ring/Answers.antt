use Rattle.std.proofs.Common.{◌∙◌, ap, arith, decimal, sym}
use Rattle.std.specs.List.{slice_get}
use Rattle.script_json.proofs.Numbered.{none_at, none_behind, one_at}
use Rattle.script_json.specs.Slices.{ring_at}
use Rattle.slice_core_spec.specs.Parts.{ring_lines}
use Rattle.script_json.proofs.slices.write_ring.Goals as goal

pub loop-place-preserved-in_default : goal.loop-place-preserved-in_default
loop-place-preserved-in_default g c = λ new rest.
    let p = c.args.state.now in
    c.loop-place.invariant new
    (none_at g.W.Write.write_str_gives (λ place. ring_at (slice_get (ring_lines p) place)) c.loop-place.is_first
    c.args.lines c.loop-place.place (omega (arith, c.loop-place-test.true))
    (ap ring_at (sym c.ring_line.ensures ∙ c.in_default.is))
    _ new rest)

pub loop-place-preserved : goal.loop-place-preserved
loop-place-preserved g c = λ new rest.
    let p = c.args.state.now in
    c.loop-place.invariant new
    (one_at g.W.Write.write_str_gives (λ place. ring_at (slice_get (ring_lines p) place)) c.loop-place.is_first
    c.args.lines c.loop-place.place (decimal c.in-Some.line.0) (omega (arith, c.loop-place-test.true))
    (ap ring_at (sym c.ring_line.ensures ∙ c.in-Some.is))
    _ _ _ new c.in_ok-write_comma.ensures c.in_ok-write_line_number.ensures rest)

pub returns : goal.returns
returns g c =
    let p = c.args.state.now in
    c.loop-place.invariant _
    (none_behind g.W.Write.write_str_gives (λ place. ring_at (slice_get (ring_lines p) place)) c.loop-place.is_first
    c.args.lines c.loop-place.place (omega (arith, c.loop-place-test.false)) _)
