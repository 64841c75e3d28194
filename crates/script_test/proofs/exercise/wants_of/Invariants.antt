use Rattle.std.proofs.Common.{◌≡◌, ◌+◌, ◌<◌, ◌^◌, ◌++◌, length, map}
use Rattle.std.specs.Str.Lines.{lines}
use Rattle.script_test.specs.Exercise.{wants_from}
use Rattle.script_test.proofs.exercise.wants_of.Given as goal

abbrev pub invariant-loop-line : goal.invariant-loop-line
invariant-loop-line l = record {
  all : map (λ w. (w.line, w.text.now)) l.wants.items
      ++ wants_from l.number l.line-iterator ≡ wants_from 0 (lines l.text);
  few : l.number + length l.line-iterator < 2 ^ 64;
}
