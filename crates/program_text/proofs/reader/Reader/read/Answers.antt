use Rattle.std.proofs.lemmas.Result.{err_from_is_err_and, IfErr-weaker, IfOk-weaker}
use Rattle.program_text.proofs.reader.Reader.read.Goals as goal

pub returns-in_err-read_line-clause-fault : goal.returns-in_err-read_line-clause-fault
returns-in_err-read_line-clause-fault c =
    let p = err_from_is_err_and c.from_residual.result c.from_residual.ensures.1 in
    rw (p.1, p.2) (λ all reading. c.in_err-read_line.ensures.fault all _ reading)

pub loop-statement-init : goal.loop-statement-init
loop-statement-init c = record {
  reading = rw c.into_iter-statement-iterator.ensures.into_iter_gives
      (λ all reading. c.in_ok-read_line.ensures.reading all _ reading);
  counted = c.in_ok-read_line.ensures.counted;
  begun = c.in_ok-read_line.ensures.begun;
}

pub loop-statement-preserved : goal.loop-statement-preserved
loop-statement-preserved c = record {
  reading = λ all reading.
      let left = c.loop-statement.invariant.reading all reading in
      c.in_ok-read_next.ensures.reading all _ (rw c.in-Some.ensures.steps at left);
  counted = c.in_ok-read_next.ensures.counted;
  begun = c.in_ok-read_next.ensures.begun;
}

pub returns-in_err-read_next-clause-fault : goal.returns-in_err-read_next-clause-fault
returns-in_err-read_next-clause-fault c =
    let p = err_from_is_err_and c.from_residual-in_err-read_next.result c.from_residual-in_err-read_next.ensures.1 in
    rw (p.1, p.2)
    (λ all reading.
    let left = c.loop-statement.invariant.reading all reading in
    c.in_err-read_next.ensures.fault all _ (rw c.in-Some.ensures.steps at left))

pub returns-clause-read : goal.returns-clause-read
returns-clause-read c =
    IfOk-weaker c.end.result _ _
    (λ programs read all reading.
    let left = c.loop-statement.invariant.reading all reading in
    read all (rw c.in-None.ensures.steps.0 at left))
    c.end.ensures.read

pub returns-clause-fault : goal.returns-clause-fault
returns-clause-fault c =
    IfErr-weaker c.end.result _ _
    (λ fault at_end all reading.
    let left = c.loop-statement.invariant.reading all reading in
    at_end all (rw c.in-None.ensures.steps.0 at left))
    c.end.ensures.fault
