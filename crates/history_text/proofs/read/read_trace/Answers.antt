use Rattle.std.proofs.lemmas.Result.{err_from_is_err_and}
use Rattle.history_text.proofs.Reading.{fault_of_other}
use Rattle.history_text.proofs.read.read_trace.Goals as goal

pub returns-in_err-check_trace-clause-fault : goal.returns-in_err-check_trace-clause-fault
returns-in_err-check_trace-clause-fault c =
    let p = err_from_is_err_and c.from_residual.result c.from_residual.ensures.1 in
    rw (p.1, p.2)
    (fault_of_other _ _ c.requires.other c.in_err-check_trace.ensures.refused c.in_err-check_trace.ensures.line
    c.in_err-check_trace.ensures.fault)
