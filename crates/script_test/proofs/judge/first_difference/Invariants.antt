use Rattle.std.proofs.Common.{drop, map, Option}
use Rattle.std.specs.Str.Lines.{lines}
use Rattle.script_test.specs.Judged.{IsFirstUnlike, Unlike}
use Rattle.script_test.proofs.judge.first_difference.Given as goal

-- the first difference of what is left is that of all
abbrev pub invariant-loop-want : goal.invariant-loop-want
invariant-loop-want l =
    let wants = map (λ w. (w.line, w.text.now)) l.wants in
    (unlike : Option Unlike) → IsFirstUnlike l.line (drop l.want-index wants) l.lines unlike
    → IsFirstUnlike l.line wants (lines l.text) unlike
