use Rattle.std.proofs.lemmas.Result.{err_from_is_err_and}
use Rattle.litmus_test.proofs.CountLemmas.{two_wrong}
use Rattle.litmus_test.proofs.line.parse_store.Goals as goal

pub returns-in_err-word-clause-form : goal.returns-in_err-word-clause-form
returns-in_err-word-clause-form c =
    let p = err_from_is_err_and c.from_residual.result c.from_residual.ensures.1 in
    rw (p.1, p.2) (two_wrong _ _ c.in_err-word.ensures.fault)
