use Rattle.std.proofs.Common.{ℕ, List, ◌<◌, map, get_or}
use Rattle.script_test.proofs.judge.count_below.Given as goal

abbrev pub invariant-loop-count : goal.invariant-loop-count
invariant-loop-count l =
    (k : ℕ) → k < l.count → (d : ℕ × List ℕ) → (get_or (map (λ w. (w.line, w.text.now)) l.wants) k d).0 < l.line
