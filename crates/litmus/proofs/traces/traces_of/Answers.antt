use Rattle.std.proofs.Common.{[], Some, inl, inr, refl}
use Rattle.std.proofs.lemmas.Result.{err_from_is_err_and}
use Rattle.litmus.proofs.Played.{not-traced}
use Rattle.litmus.proofs.traces.traces_of.Goals as goal

pub returns-in_ok-trace_script-in-Some-clause-traces : goal.returns-in_ok-trace_script-in-Some-clause-traces
returns-in_ok-trace_script-in-Some-clause-traces g c =
    let read = rw c.in-Some.is at c.in_ok-script.ensures.read in
    (refl, record { are = inr (_, _, _, read, c.in_ok-trace_script-in-Some.ensures.traced) })

pub returns-in_err-script-clause-fault : goal.returns-in_err-script-clause-fault
returns-in_err-script-clause-fault g c =
    let p = err_from_is_err_and c.from_residual.result c.from_residual.ensures.1 in
    rw (p.1, p.2) (record { is = inr (Some [], inl (c.in_err-script.ensures.fault, refl)) })

pub returns-in_err-trace_script-in-Some-clause-fault : goal.returns-in_err-trace_script-in-Some-clause-fault
returns-in_err-trace_script-in-Some-clause-fault g c =
    let residual = c.from_residual-in_err-trace_script-in-Some in
    let p = err_from_is_err_and residual.result residual.ensures.1 in
    let read = rw c.in-Some.is at c.in_ok-script.ensures.read in
    rw (p.1, p.2)
    (record { is = not-traced _ c.in-Some.script _ read c.in_err-trace_script-in-Some.ensures.fault })
