use Rattle.std.proofs.Common.{◌≡◌, ◌∷◌, false, List}
use Rattle.program_text.specs.Fault.{Statement}
use Rattle.program_text.specs.Judged.{is_first}
use Rattle.program_text.specs.Reading.{IsSoundReader, IsReading, said_by, said_in}
use Rattle.program_text.proofs.reader.Reader.read.Given as goal

abbrev pub invariant-loop-statement : goal.invariant-loop-statement
invariant-loop-statement l = record {
  reading : (all : List Statement)
      → IsReading all (said_by l.fn.self) (said_in l.fn.first ∷ l.fn.statements)
      → IsReading all (said_by l.reader) l.statement-iterator;
  counted : IsSoundReader l.reader;
  begun : is_first (said_by l.reader) ≡ false;
}
