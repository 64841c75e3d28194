use Rattle.litmus_test.proofs.ReadingLemmas.{begun_line, no_next, on_ok_two, reading_line}
use Rattle.std.proofs.Common.{subst, sym}
use Rattle.litmus_test.specs.Reading.{IsBegun, IsReading}
use Rattle.litmus_test.specs.Line.{line_of}
use Rattle.litmus_test.specs.Text.{said_by}
use Rattle.std.proofs.lemmas.Result.{IfErr-weaker}
use Rattle.litmus_test.proofs.FaultLemmas.{no_line, placed_line}
use Rattle.litmus_test.proofs.test.LitmusTest.read_line.Goals as goal

pub returns-in-Ok-clause-reading : goal.returns-in-Ok-clause-reading
returns-in-Ok-clause-reading c =
    on_ok_two c.take.result _ _ _
    (λ may said start all left reading. subst (λ now. IsReading c.args.version start now all left) (sym said)
    (reading_line c.args.version start (said_by c.args.self.now) all left _ (line_of c.in-Ok.line)
    (rw c.as_slice-words.ensures.value at c.in-Ok.ensures.reads.written)
    (rw c.as_slice-words.ensures.value at c.in-Ok.ensures.reads.only) may reading))
    c.take.ensures.may c.take.ensures.said

pub returns-in-Ok-clause-begun : goal.returns-in-Ok-clause-begun
returns-in-Ok-clause-begun c =
    on_ok_two c.take.result _ _ _
    (λ may said. subst IsBegun (sym said) (begun_line (said_by c.args.self.now) c.in-Ok.line may))
    c.take.ensures.may c.take.ensures.said

pub returns-in-Ok-clause-refused : goal.returns-in-Ok-clause-refused
returns-in-Ok-clause-refused c =
    IfErr-weaker c.take.result _ _
    (no_next c.args.version (said_by c.args.self.now) _ (line_of c.in-Ok.line)
    (rw c.as_slice-words.ensures.value at c.in-Ok.ensures.reads.only))
    c.take.ensures.refused

pub returns-in-Ok-clause-fault : goal.returns-in-Ok-clause-fault
returns-in-Ok-clause-fault c =
    IfErr-weaker c.take.result _ _
    (λ fault. placed_line c.args.version _ _ _ (line_of c.in-Ok.line) fault
    (rw c.as_slice-words.ensures.value at c.in-Ok.ensures.reads.written))
    c.take.ensures.fault

pub returns-in-Err-clause-fault : goal.returns-in-Err-clause-fault
returns-in-Err-clause-fault c =
    rw c.at.ensures
    (no_line c.args.version (said_by c.args.self.now) c.args.statement.now.number _ _ c.in-Err.fault c.requires
    (rw c.as_slice-words.ensures.value at c.in-Err.ensures.reads.refused)
    (rw c.as_slice-words.ensures.value at c.in-Err.ensures.form)
    (rw c.as_slice-words.ensures.value at c.fault_of.ensures.astray)
    (rw c.as_slice-words.ensures.value at c.fault_of.ensures.placed))
