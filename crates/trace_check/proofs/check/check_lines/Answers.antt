use Rattle.std.proofs.lemmas.Result.{err_from_is_err_and}
use Rattle.trace_check.proofs.CheckLemmas.{reading-none}
use Rattle.trace_check.proofs.RefusalLemmas.{at_first_fault, no_trace, IsNoMemoryOrLine-weaker}
use Rattle.trace_check.proofs.check.check_lines.Goals as goal

pub lines-init : goal.lines-init
lines-init c = record {
  reading = reading-none _ _ c.new-check.ensures.stands;
  version = c.new-check.ensures.version;
}

pub returns-in_err-take-clause-refused : goal.returns-in_err-take-clause-refused
returns-in_err-take-clause-refused c =
    let p = err_from_is_err_and c.from_residual.result c.from_residual.ensures.1 in
    rw (p.1, p.2)
    (IsNoMemoryOrLine-weaker _ _ _
    (no_trace c.lines.check c.args.version _ _ _ c.lines.invariant.version
    (rw (c.read.ensures.read c.lines-test.true) at c.lines.invariant.reading))
    c.in_err-take.ensures.refused)

pub returns-in_err-take-clause-line : goal.returns-in_err-take-clause-line
returns-in_err-take-clause-line c =
    let p = err_from_is_err_and c.from_residual.result c.from_residual.ensures.1 in
    rw (p.1, p.2)
    (at_first_fault c.lines.check c.args.version _ _ _ _ _ c.lines.invariant.version
    (rw (c.read.ensures.read c.lines-test.true) at c.lines.invariant.reading)
    c.in_err-take.ensures.refused c.in_err-take.ensures.line)
