use Rattle.std.proofs.Common.{arith, subst, sym, ap, ◌∙◌}
use Rattle.std.proofs.lemmas.List.{length-map, length-reverse}
use Rattle.std.proofs.lemmas.Result.{IfErr-weaker}
use Rattle.program_text.specs.Fault.{program_of, programs_of}
use Rattle.program_text.specs.Judged.{is_first}
use Rattle.program_text.specs.Line.{line_of}
use Rattle.program_text.specs.Reading.{IsReading, said_by}
use Rattle.program_text.proofs.JudgedLemmas.{begun_line}
use Rattle.program_text.proofs.ReadingLemmas.{line_fault, on_ok_two, place_fault, reading_line}
use Rattle.program_text.proofs.reader.Reader.read_line.Goals as goal

pub returns-in-Ok-clause-reading : goal.returns-in-Ok-clause-reading
returns-in-Ok-clause-reading c =
    on_ok_two c.take.result _ _ _
    (λ may said all left reading. subst (λ now. IsReading all now left) (sym said)
    (reading_line all left (said_by c.args.self.now) _ (line_of c.in-Ok.line)
    (rw c.as_slice.ensures.value at c.in-Ok.ensures.reads.written)
    (rw c.as_slice.ensures.value at c.in-Ok.ensures.reads.only) may reading))
    c.take.ensures.may c.take.ensures.said

pub returns-in-Ok-clause-begun : goal.returns-in-Ok-clause-begun
unfolding said_by
returns-in-Ok-clause-begun c =
    on_ok_two c.take.result _ _ _
    (λ may said. ap is_first said
    ∙ begun_line (said_by c.args.self.now) c.args.statement.now.number c.in-Ok.line
    (λ some. omega (
      arith,
      c.requires.counted.begun (omega (arith, length-reverse c.args.self.now.blocks.items, some)),
      length-reverse (programs_of c.args.self.now.programs),
      length-map c.args.self.now.programs.cores.items program_of,
    )) may)
    c.take.ensures.may c.take.ensures.said

pub returns-in-Ok-clause-fault : goal.returns-in-Ok-clause-fault
unfolding said_by
returns-in-Ok-clause-fault c =
    IfErr-weaker c.take.result _ _
    (λ fault place all left reading. place_fault all left (said_by c.args.self.now) _ _
    (line_of c.in-Ok.line) fault reading
    c.requires.counted.checked (rw c.as_slice.ensures.value at c.in-Ok.ensures.reads.written) place)
    c.take.ensures.fault

pub returns-in-Err-clause-fault : goal.returns-in-Err-clause-fault
unfolding said_by
returns-in-Err-clause-fault c = λ all left reading.
    rw c.at.ensures
    (line_fault all left (said_by c.args.self.now) _ _ _ reading c.requires.counted.checked c.requires.begins
    (rw c.as_slice.ensures.value at c.in-Err.ensures.reads.refused)
    (rw c.as_slice.ensures.value at c.in-Err.ensures.form))
