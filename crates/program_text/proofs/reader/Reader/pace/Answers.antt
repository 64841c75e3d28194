use Rattle.program_text.specs.Reading.{said_by}
use Rattle.program_text.proofs.reader.Reader.pace.Goals as goal

pub returns-clause-counted : goal.returns-clause-counted
unfolding said_by
returns-clause-counted c = record {
  count = c.requires.counted.count;
  few = c.requires.counted.few;
  begun = c.requires.counted.begun;
  checked = c.requires.counted.checked;
  allowed = c.requires.counted.allowed;
}
