use Rattle.std.proofs.lemmas.Result.{err_from_is_err_and}
use Rattle.litmus_test.proofs.CountLemmas.{one_wrong}
use Rattle.litmus_test.proofs.line.parse_evict.Goals as goal

pub returns-in_err-one_number-clause-form : goal.returns-in_err-one_number-clause-form
returns-in_err-one_number-clause-form c =
    let p = err_from_is_err_and c.from_residual.result c.from_residual.ensures.1 in
    rw (p.1, p.2) (one_wrong _ _ c.in_err-one_number.ensures.fault)
