use Rattle.std.proofs.lemmas.Result.{err_from_is_err_and}
use Rattle.litmus_test.proofs.SettingLemmas.{rounds_wrong}
use Rattle.litmus_test.proofs.setting.parse_rounds.Goals as goal

pub returns-in_err-one_number-clause-fault : goal.returns-in_err-one_number-clause-fault
returns-in_err-one_number-clause-fault c =
    let p = err_from_is_err_and c.from_residual.result c.from_residual.ensures.1 in
    rw (p.1, p.2) (rounds_wrong _ _ c.in_err-one_number.ensures.fault)
