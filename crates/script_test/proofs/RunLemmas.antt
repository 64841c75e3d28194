-- What a test prints, from what its parts answer.
use Rattle.std.proofs.Common.{◌≡◌, ℕ, Bool, List, Option, length, map, subst, ap, ◌∙◌, false}
use Rattle.std.specs.Io.KnownBytes.{Appends}
use Rattle.std.specs.Str.Lines.{lines}
use Rattle.litmus_text.specs.Statement.{statements_from}
use Rattle.script_test.specs.Answers.{AreAnswers, answers_of}
use Rattle.script_test.specs.Exercise.{script_in, wants_from}
use Rattle.script_test.specs.Judged.{IsJudged, PrintsTest, Unlike, status_of, text_of}

module _ (input script again : List ℕ) (texts : List (List ℕ)) (numbers : List ℕ) (answers wants : List (ℕ × List ℕ))
    (script_is : script ≡ script_in false input) (again_is : again ≡ script_in false input)
    (answered : AreAnswers (statements_from 0 (lines script)) texts)
    (numbers_are : numbers ≡ map (λ s. s.0) (statements_from 0 (lines again)))
    (answers_are : answers ≡ answers_of numbers texts)
    (wants_are : wants ≡ wants_from 0 (lines input)) where
  pub prints_test : (first : Bool) (before after : Option (List ℕ)) (unlikes : List Unlike) (status n : ℕ)
      → n ≡ length wants → IsJudged wants answers unlikes
      → (status ≡ status_of n unlikes) × Appends before after (text_of first n unlikes)
      → PrintsTest input first before after status
  prints_test first before after unlikes status n count judged (is, printed) =
      let all = statements_from 0 (lines (script_in false input)) in
      let numbers_of : numbers ≡ map (λ s. s.0) all =
      numbers_are ∙ ap (λ text. map (λ s. s.0) (statements_from 0 (lines text))) again_is in
      let wanted = count ∙ ap length wants_are in
      record {
        unlikes = unlikes;
        tested = record {
          texts = texts;
          answered = subst (λ text. AreAnswers (statements_from 0 (lines text)) texts) script_is answered;
          judged =
              subst (λ ws. IsJudged ws (answers_of (map (λ s. s.0) all) texts) unlikes) wants_are
              (subst (λ given. IsJudged wants given unlikes)
              (answers_are ∙ ap (λ ns. answers_of ns texts) numbers_of) judged);
        };
        is = is ∙ ap (λ k. status_of k unlikes) wanted;
        printed = subst (λ k. Appends before after (text_of first k unlikes)) wanted printed;
      }
