use Rattle.std.proofs.Common.{inl, map, rules}
use Rattle.program_text.specs.Line.{BeginsAsSetting}
use Rattle.program_text.specs.Reading.{said_by}
use Rattle.program_text.proofs.ReadingLemmas.{faulty, late_fault}
use Rattle.program_text.proofs.reader.Reader.read_next.Goals as goal

pub returns-then-begins_as_setting-clause-fault : goal.returns-then-begins_as_setting-clause-fault
returns-then-begins_as_setting-clause-fault c = λ all left reading.
    let begins : BeginsAsSetting (map (λ w. w.now) c.args.statement.now.words.items) = search rules in
    rw c.at.ensures
    (faulty all left (said_by c.args.self.now) _ _ _ reading (inl begins)
    (late_fault (said_by c.args.self.now) _ _ begins c.requires.begun
    (rw c.as_slice-words.ensures.value at c.late_fault.ensures)))
