use Rattle.std.proofs.Common.{◌≡◌, ◌≤◌, ◌-◌, ◌++◌, map, length, drop}
use Rattle.litmus_text.specs.Text.{words}
use Rattle.litmus_text.specs.declared.row.TheConstants.{MOST_WORDS}
use Rattle.litmus_text.proofs.row.fill_by_blanks.Given as goal

abbrev pub invariant-loop-at : goal.invariant-loop-at
invariant-loop-at l = record {
  all : map (λ w. w.now) l.row.items ++ words (drop l.at l.line) ≡ words l.line;
  few : length l.row.items ≤ MOST_WORDS;
}

abbrev pub decreases-loop-at : goal.decreases-loop-at
decreases-loop-at l = length l.line - l.at
