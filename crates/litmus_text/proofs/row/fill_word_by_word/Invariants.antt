use Rattle.std.proofs.Common.{◌≡◌, ◌≤◌, ◌++◌, map, length}
use Rattle.litmus_text.specs.Text.{words_of_line}
use Rattle.litmus_text.specs.declared.row.TheConstants.{MOST_WORDS}
use Rattle.litmus_text.proofs.row.fill_word_by_word.Given as goal

abbrev pub invariant-loop-word : goal.invariant-loop-word
invariant-loop-word l = record {
  all : map (λ w. w.now) l.row.items ++ l.word-iterator ≡ words_of_line l.line;
  few : length l.row.items ≤ MOST_WORDS;
}
