use Rattle.std.proofs.lemmas.Result.{err_from_is_err_and}
use Rattle.litmus_test.specs.Text.{said_by}
use Rattle.litmus_test.proofs.ReadingLemmas.{IsNoMemoryOr-weaker, at_first_fault, reading_all, reading_none}
use Rattle.litmus_test.proofs.ReadingLemmas.{says_nothing}
use Rattle.std.proofs.Common.{inr}
use Rattle.litmus_test.proofs.FaultLemmas.{checked_test, next_among}
use Rattle.litmus_test.proofs.reader.read_threads.Goals as goal

pub returns-in_err-read_line-clause-refused : goal.returns-in_err-read_line-clause-refused
returns-in_err-read_line-clause-refused c =
    let p = err_from_is_err_and c.from_residual.result c.from_residual.ensures.1 in
    rw (p.1, p.2)
    (IsNoMemoryOr-weaker _ _ _ (says_nothing c.args.version _ _ _ _ _
    (reading_none c.args.version (said_by c.args.test) _))
    c.in_err-read_line.ensures.refused)

pub loop-statement-init : goal.loop-statement-init
loop-statement-init c = record {
  reading = rw c.into_iter-statement-iterator.ensures.into_iter_gives
      (c.in_ok-read_line.ensures.reading _ _ _ (reading_none c.args.version (said_by c.args.test) _));
  begun = c.in_ok-read_line.ensures.begun;
}

pub loop-statement-preserved : goal.loop-statement-preserved
loop-statement-preserved c = record {
  reading = c.in_ok-read_next.ensures.reading _ _ _
      (rw c.in-Some.ensures.steps at c.loop-statement.invariant.reading);
  begun = c.in_ok-read_next.ensures.begun;
}

pub returns-in_err-read_next-clause-refused : goal.returns-in_err-read_next-clause-refused
returns-in_err-read_next-clause-refused c =
    let p = err_from_is_err_and c.from_residual-in_err-read_next.result c.from_residual-in_err-read_next.ensures.1 in
    rw (p.1, p.2)
    (IsNoMemoryOr-weaker _ _ _
    (says_nothing c.args.version _ _ _ _ _ (rw c.in-Some.ensures.steps at c.loop-statement.invariant.reading))
    c.in_err-read_next.ensures.refused)

pub returns-clause-says : goal.returns-clause-says
returns-clause-says c =
    reading_all c.args.version _ _ _ (rw c.in-None.ensures.steps.0 at c.loop-statement.invariant.reading)

pub returns-in_err-read_line-clause-line : goal.returns-in_err-read_line-clause-line
returns-in_err-read_line-clause-line c =
    let p = err_from_is_err_and c.from_residual.result c.from_residual.ensures.1 in
    rw (p.1, p.2)
    (at_first_fault c.args.version _ _ _ _ _ _ _ (reading_none c.args.version (said_by c.args.test) _)
    c.in_err-read_line.ensures.refused c.in_err-read_line.ensures.line)

pub returns-in_err-read_next-clause-line : goal.returns-in_err-read_next-clause-line
returns-in_err-read_next-clause-line c =
    let p = err_from_is_err_and c.from_residual-in_err-read_next.result c.from_residual-in_err-read_next.ensures.1 in
    rw (p.1, p.2)
    (at_first_fault c.args.version _ _ _ _ _ _ _
    (rw c.in-Some.ensures.steps at c.loop-statement.invariant.reading)
    c.in_err-read_next.ensures.refused c.in_err-read_next.ensures.line)

pub returns-in_err-read_line-clause-fault : goal.returns-in_err-read_line-clause-fault
returns-in_err-read_line-clause-fault c =
    let p = err_from_is_err_and c.from_residual.result c.from_residual.ensures.1 in
    rw (p.1, p.2)
    (next_among c.args.version _ _ _ _ _ _ _ (reading_none c.args.version (said_by c.args.test) _)
    (inr (checked_test c.args.test)) c.in_err-read_line.ensures.fault)

pub returns-in_err-read_next-clause-fault : goal.returns-in_err-read_next-clause-fault
returns-in_err-read_next-clause-fault c =
    let p = err_from_is_err_and c.from_residual-in_err-read_next.result c.from_residual-in_err-read_next.ensures.1 in
    rw (p.1, p.2)
    (next_among c.args.version _ _ _ _ _ _ _ (rw c.in-Some.ensures.steps at c.loop-statement.invariant.reading)
    (inr (checked_test c.loop-statement.test)) c.in_err-read_next.ensures.fault)
