-- What is written of the rounds of a litmus test.
use Rattle.std.specs.Prelude.{ℕ, List, ◌++◌, Option, codes, count_by, decimal}
use Rattle.litmus_text.specs.JsonNumber.{number_of}
use Rattle.litmus_test.specs.Forbid.{is_forbidden}
use Rattle.litmus_test.specs.Table.{RowView}
use Rattle.litmus_test.specs.OutcomesText.{text_of}
use Rattle.litmus_test.specs.declared.test.LitmusTest.{LitmusTest}
use Rattle.litmus_test.specs.Json.{json_of}
use Rattle.litmus_test.specs.declared.outcomes.form.OutcomeForm.{OutcomeForm}
use Rattle.litmus_test.specs.declared.outcomes.form.OutcomeForm.TheVariants as forms

-- the outcomes of rounds, in this form
abbrev pub text_of_outcomes : OutcomeForm → LitmusTest → Option ℕ → List RowView → List (List ℕ) → List ℕ
text_of_outcomes forms.Table test seed rows rounds = text_of test seed rows rounds
text_of_outcomes forms.Json test seed rows rounds = json_of test seed rows (count_by (is_forbidden test) rounds)

-- a round was stuck
abbrev pub text_of_stuck : OutcomeForm → ℕ → List ℕ
text_of_stuck forms.Table round = codes "stuck round " ++ decimal round ++ codes "\n"
text_of_stuck forms.Json round = codes "{\"stuck_round\":" ++ number_of round ++ codes "}\n"

-- a round was given up after `moves` moves
abbrev pub text_of_gave_up : OutcomeForm → (round moves : ℕ) → List ℕ
text_of_gave_up forms.Table round moves =
    codes "gave up round " ++ (decimal round ++ (codes " after " ++ (decimal moves ++ codes " moves\n")))
text_of_gave_up forms.Json round moves =
    codes "{\"gave_up_round\":" ++ (number_of round ++ (codes ",\"moves\":" ++ (number_of moves ++ codes "}\n")))
