use Rattle.litmus_text.proofs.NumberLemmas.{ReadUpTo}
use Rattle.litmus_text.proofs.number.number.Given as goal

abbrev pub invariant-loop-byte : goal.invariant-loop-byte
invariant-loop-byte l = ReadUpTo l.word l.byte-index l.number
