use Rattle.std.proofs.lemmas.Result.{err_from_is_err_and}
use Rattle.litmus_script.proofs.ScriptLemmas.{not_configured_machine}
use Rattle.litmus_script.proofs.script.Script.read_from.Goals as goal

pub returns-in_err-checked-clause-fault : goal.returns-in_err-checked-clause-fault
returns-in_err-checked-clause-fault c =
    let p = err_from_is_err_and c.from_residual-in_err-checked.result c.from_residual-in_err-checked.ensures.1 in
    rw (p.1, p.2)
    (not_configured_machine _ _ _ _ c.in_ok-settings.ensures.read c.in_ok-settings.ensures.last
    c.in_err-checked.ensures.refused)
