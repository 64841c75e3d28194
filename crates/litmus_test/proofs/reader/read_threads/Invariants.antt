use Rattle.std.proofs.Common.{◌∷◌, map}
use Rattle.litmus_test.specs.Reading.{IsBegun, IsReading}
use Rattle.litmus_test.specs.Text.{said_by}
use Rattle.litmus_test.proofs.reader.read_threads.Given as goal

abbrev pub invariant-loop-statement : goal.invariant-loop-statement
invariant-loop-statement l = record {
  reading : IsReading l.fn.version (said_by l.fn.test) (said_by l.test)
      ((l.fn.first.number, map (λ w. w.now) l.fn.first.words.items) ∷ l.fn.statements) l.statement-iterator;
  begun : IsBegun (said_by l.test);
}
