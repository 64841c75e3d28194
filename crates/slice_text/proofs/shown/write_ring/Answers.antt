use Rattle.std.proofs.Common.{arith}
use Rattle.litmus_text.proofs.Numbers.{next_number, last_number}
use Rattle.slice_text.specs.Shown.{text_at_place}
use Rattle.slice_text.proofs.shown.write_ring.Goals as goal

pub loop-place-preserved : goal.loop-place-preserved
loop-place-preserved g c = λ new rest.
    c.loop-place.invariant new
    (next_number g.W.Write.write_str_gives (text_at_place c.args.state.now) c.args.lines c.loop-place.place
    c.loop-place-test.true _ _ new
    c.in_ok-write_place.ensures rest)

pub returns : goal.returns
returns g c =
    let end = c.loop-place-test.false in
    c.loop-place.invariant _ (last_number g.W.Write.write_str_gives (text_at_place c.args.state.now) c.args.lines
    c.loop-place.place (omega (arith, end)) _)
