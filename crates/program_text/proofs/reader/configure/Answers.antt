use Rattle.std.proofs.Common.{subst, sym}
use Rattle.std.proofs.lemmas.Result.{on_ok_weaker}
use Rattle.program_text.specs.Reading.{IsReading, said_first}
use Rattle.program_text.proofs.ReadingLemmas.{reading_setting, setting_fault}
use Rattle.program_text.proofs.reader.configure.Goals as goal

pub returns-in-Ok-clause-reading : goal.returns-in-Ok-clause-reading
returns-in-Ok-clause-reading c =
    on_ok_weaker c.set.result
    (λ said all left reading. subst (λ now. IsReading all (said_first now) left) (sym said)
    (reading_setting all left _ _ c.in-Ok.line c.requires (rw c.as_slice.ensures.value at c.in-Ok.ensures.written)
    (rw c.as_slice.ensures.value at c.in-Ok.ensures.only) reading))
    c.set.ensures.said

pub returns-in-Err-clause-fault : goal.returns-in-Err-clause-fault
returns-in-Err-clause-fault c = λ all left reading.
    rw c.at.ensures
    (setting_fault all left _ _ _ _ reading c.requires (rw c.as_slice.ensures.value at c.in-Err.ensures.fault))
