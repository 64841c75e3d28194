use Rattle.std.proofs.lemmas.Result.{err_from_is_err_and}
use Rattle.litmus_script.proofs.RunLemmas.{run_of, run_up_to}
use Rattle.litmus_script.proofs.script.run_in_style.Goals as goal

pub returns-in_err-run_read-clause-fault : goal.returns-in_err-run_read-clause-fault
returns-in_err-run_read-clause-fault g c =
    let p = err_from_is_err_and c.from_residual-in_err-run_read.result c.from_residual-in_err-run_read.ensures.1 in
    let read = rw c.in-Some.is at c.in_ok-script.ensures.read in
    rw (p.1, p.2) (run_up_to _ _ c.in-Some.script _ _ _ read c.in_err-run_read.ensures.fault)

pub returns-clause-printed : goal.returns-clause-printed
returns-clause-printed g c =
    let read = rw c.in-Some.is at c.in_ok-script.ensures.read in
    run_of _ _ c.in-Some.script _ _ read c.in_ok-run_read.ensures.played
