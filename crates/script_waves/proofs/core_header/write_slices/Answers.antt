use Rattle.std.proofs.Common.{arith}
use Rattle.litmus_text.proofs.Numbers.{next_number, last_number}
use Rattle.script_waves.specs.Signals.{text_of_slice}
use Rattle.script_waves.proofs.core_header.write_slices.Goals as goal

pub loop-slice-preserved : goal.loop-slice-preserved
loop-slice-preserved g c = λ new rest.
    c.loop-slice.invariant new
    (next_number g.W.Write.write_str_gives (text_of_slice c.args.cores) c.args.slices c.loop-slice.slice
    c.loop-slice-test.true _ _ new
    c.in_ok-write_slice.ensures rest)

pub returns : goal.returns
returns g c =
    let end = c.loop-slice-test.false in
    c.loop-slice.invariant _ (last_number g.W.Write.write_str_gives (text_of_slice c.args.cores) c.args.slices
    c.loop-slice.slice (omega (arith, end)) _)
