use Rattle.std.proofs.Common.{◌≤◌, ◌++◌, length, drop, map, List}
use Rattle.script_test.specs.Judged.{IsJudged, Unlike, unlike_of}
use Rattle.script_test.proofs.judge.judge.Given as goal

-- those that were found, and then the differences of what is left, are those of all
abbrev pub invariant-loop-place : goal.invariant-loop-place
invariant-loop-place l =
    let wants = map (λ w. (w.line, w.text.now)) l.wants in
    let answers = map (λ a. (a.line, a.text.now)) l.answers in
    record {
      taken : l.taken ≤ length l.wants;
      all : (others : List Unlike) → IsJudged (drop l.taken wants) (drop l.place answers) others
          → IsJudged wants answers (map unlike_of l.differences.items ++ others);
    }
