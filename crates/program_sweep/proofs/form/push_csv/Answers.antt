use Rattle.std.proofs.lemmas.Result.{on_ok_weaker}
use Rattle.program_sweep.proofs.RowLemmas.{four_pieces}
use Rattle.program_sweep.proofs.form.push_csv.Goals as goal

pub returns : goal.returns
returns c =
    on_ok_weaker c.push-2.result
    (λ last. four_pieces c.args.out.now.items _ _ _ _ _ _ _ _ c.in_ok-push_heading_if.ensures c.in_ok-push.ensures
    c.in_ok-push_all.ensures last)
    c.push-2.ensures
