use Rattle.std.proofs.lemmas.Result.{on_ok_weaker}
use Rattle.program_sweep.proofs.SweepLemmas.{prints_one}
use Rattle.program_sweep.proofs.sweep.print_made.Goals as goal

pub returns-in-Ok-clause-printed : goal.returns-in-Ok-clause-printed
returns-in-Ok-clause-printed g c =
    let run = rw c.in-Ok.is at c.requires in
    on_ok_weaker c.print_row.result
    (λ last. prints_one c.args.input.now c.args.sweep.now c.args.program.now c.args.form c.args.number c.in-Ok.row _ _ run
    last)
    c.print_row.ensures.printed
