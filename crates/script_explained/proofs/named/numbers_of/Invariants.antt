use Rattle.std.proofs.Common.{◌≡◌, map, take}
use Rattle.script_explained.proofs.named.numbers_of.Given as goal

-- those so far
abbrev pub invariant-loop-line : goal.invariant-loop-line
invariant-loop-line l = l.numbers.items ≡ map (λ line. line.0) (take l.line-index l.lines)
