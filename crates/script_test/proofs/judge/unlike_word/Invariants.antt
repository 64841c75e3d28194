use Rattle.std.proofs.Common.{◌≡◌, ◌+◌, ◌++◌, List, ℕ, length}
use Rattle.litmus_text.specs.Text.{words_of_line}
use Rattle.script_test.proofs.judge.unlike_word.Given as goal

-- the words that were read are the same in both lines
abbrev pub invariant-loop-word : goal.invariant-loop-word
invariant-loop-word l = record {
  front : List (List ℕ);
  wanted : words_of_line l.wanted ≡ front ++ l.word-iterator;
  got : words_of_line l.got ≡ front ++ l.others;
  number : l.number ≡ length front + 1;
}
