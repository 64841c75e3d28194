use Rattle.std.proofs.Common.{◌≡◌, ◌++◌, drop, map}
use Rattle.script_test.specs.Answers.{answers_of, numbered_from}
use Rattle.script_test.proofs.answer.answers_of.Given as goal

abbrev pub invariant-loop-place : goal.invariant-loop-place
invariant-loop-place l =
    let texts = map (λ t. t.items) l.texts in
    map (λ a. (a.line, a.text.now)) l.answers.items ++ numbered_from l.skipped texts l.place (drop l.place l.numbers)
    ≡ answers_of l.numbers texts
