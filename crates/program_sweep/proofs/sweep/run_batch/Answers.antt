use Rattle.program_sweep.proofs.SweepLemmas.{prints_kept}
use Rattle.program_sweep.proofs.sweep.run_batch.Goals as goal

pub returns-clause-printed : goal.returns-clause-printed
returns-clause-printed g c =
    let input = c.args.input.now in
    let sweep = c.args.sweep.now in
    let program = c.args.program.now in
    let printed = rw (c.as_slice-rows.ensures.value, c.in_ok-made.ensures.len) at c.in_ok-print_rows.ensures.printed in
    prints_kept input sweep program c.args.form c.args.first c.args.count _ _ _ printed c.in_ok-flush.ensures.kept
