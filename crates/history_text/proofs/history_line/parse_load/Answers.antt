use Rattle.std.proofs.Common.{refl}
use Rattle.std.proofs.lemmas.Result.{err_from_is_err_and}
use Rattle.history_text.specs.HistoryLine.{IsTold}
use Rattle.history_text.proofs.HistoryLines.{of_load}
use Rattle.history_text.proofs.history_line.parse_load.Goals as goal

pub returns-in_err-word : goal.returns-in_err-word
returns-in_err-word c =
    let p = err_from_is_err_and c.from_residual.result c.from_residual.ensures.1 in
    rw p.1 (record {
      told = tt;
      only = tt;
      refused = λ op word reply it. c.in_err-word.ensures.refused _ _ (of_load _ op word reply it);
    })

pub returns : goal.returns
unfolding IsTold
returns c = record {
  told = (refl, c.in_ok-word.ensures.written);
  only = λ op word reply it. (c.in_ok-word.ensures.only _ _ (of_load _ op word reply it)).0;
  refused = tt;
}
