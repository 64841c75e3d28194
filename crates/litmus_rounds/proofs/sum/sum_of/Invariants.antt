use Rattle.std.proofs.Common.{◌≡◌, drop}
use Rattle.litmus_rounds.specs.Sum.{sum_from, sum_of}
use Rattle.litmus_rounds.proofs.sum.sum_of.Given as goal

-- the sum so far, continued over the remaining bytes, is that of the text
abbrev pub invariant-loop-byte : goal.invariant-loop-byte
invariant-loop-byte l = sum_from l.sum (drop l.byte-index l.text) ≡ sum_of l.text
