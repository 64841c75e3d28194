use Rattle.std.proofs.Common.{ℕ, nat_eq}
use Rattle.std.specs.HashMap.{get}
use Rattle.history_judge.proofs.Tables.{IsWriterUpTo}
use Rattle.history_judge.proofs.writers.Writers.of.Given as goal

abbrev pub invariant-loop-place : goal.invariant-loop-place
invariant-loop-place l = (v : ℕ) → IsWriterUpTo l.fn.word.0 l.history l.place v (get nat_eq l.map v)
