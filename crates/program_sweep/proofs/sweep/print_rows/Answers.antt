use Rattle.program_sweep.proofs.SweepLemmas.{prints_more}
use Rattle.program_sweep.proofs.sweep.print_rows.Goals as goal

pub print_made-requires : goal.print_made-requires
print_made-requires g c = c.requires.made c.loop-place.place _ c.loop-place-test.true

pub loop-place-preserved : goal.loop-place-preserved
loop-place-preserved g c =
    prints_more c.args.input.now c.args.sweep.now c.args.program.now c.args.form c.args.first c.loop-place.place 1 _ _ _
    c.loop-place.invariant c.in_ok-print_made.ensures.printed
