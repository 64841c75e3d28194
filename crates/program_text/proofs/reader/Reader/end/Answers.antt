use Rattle.std.proofs.Common.{sym}
use Rattle.program_text.proofs.EndLemmas.{all_read, left_open}
use Rattle.program_text.proofs.reader.Reader.end.Goals as goal

pub returns-in-Some-clause-fault : goal.returns-in-Some-clause-fault
returns-in-Some-clause-fault c = λ all reading.
    rw c.at.ensures
    (left_open all c.args.self c.in-Some.block.now reading c.requires.checked
    (sym (rw c.as_slice-blocks.ensures.value at c.in-Some.ensures.value)))

pub returns-in-None-clause-read : goal.returns-in-None-clause-read
returns-in-None-clause-read c = λ all reading.
    all_read all c.args.self reading c.requires.checked
    (sym (rw c.as_slice-blocks.ensures.value at c.in-None.ensures.value))
