use Rattle.std.proofs.Common.{inl}
use Rattle.script_coverage.proofs.coverage.Coverage.read_lines.Goals as goal

pub lines-init : goal.lines-init
lines-init c = record { all = λ new rest. rest; up_to = λ new unread rest. rest }

pub returns-in-Err-clause-refused : goal.returns-in-Err-clause-refused
returns-in-Err-clause-refused c =
    let wrong = rw c.as_slice.ensures.value at c.in-Err.ensures.refused in
    let same = c.in-Err.ensures.same in
    c.lines.invariant.up_to _ _
    (rw (c.read.ensures.read c.lines-test.true)
    (inl (c.at.ensures.number, rw c.at.ensures.fault wrong, same)))
