use Rattle.std.proofs.Common.{◌+◌, sym, subst, ap}
use Rattle.std.proofs.KnownBytes.{Appends-trans}
use Rattle.std.proofs.lemmas.List.{drop_more}
use Rattle.std.specs.Io.KnownBytes.{Appends}
use Rattle.script_waves.specs.InUse.{text_of_uses}
use Rattle.script_waves.proofs.in_use.write_slices.Goals as goal

pub loop-slice-preserved : goal.loop-slice-preserved
loop-slice-preserved g c = λ after rest.
    let contents = g.W.Write.contents in
    let slice = c.loop-slice.slice in
    let slices = c.args.slices.now in
    let here = rw (c.index-slices-slice.is) at c.in_ok-write_slice.ensures.written in
    c.loop-slice.invariant after
    (subst (Appends (contents c.loop-slice.out) after)
    (sym (ap (text_of_uses c.args.cores slice) (drop_more slices slice _ c.loop-slice-test.true)))
    (Appends-trans _ _ _ _ _ here rest))
