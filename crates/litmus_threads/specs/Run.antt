-- What is written of a run of a litmus test, and how it ends.
use Rattle.std.specs.Prelude.{◌≡◌, ◌⊎◌, ℕ, ◌<◌, ◌==◌, if◌then◌else◌, All, List, None, count_by}
use Rattle.std.specs.Prelude.{length}
use Rattle.litmus_test.specs.Forbid.{is_forbidden}
use Rattle.litmus_test.specs.Table.{AreRowsOf, IsTableOf, RowView}
use Rattle.litmus_test.specs.declared.test.LitmusTest.{LitmusTest}
use Rattle.litmus_threads.specs.Round.{IsOutcomeOf}
use Rattle.litmus_threads.specs.declared.rounds.Run.{Run}
use Rattle.litmus_threads.specs.declared.rounds.Run.TheVariants as runs
use Rattle.litmus_test.specs.Form.{text_of_outcomes, text_of_stuck}
use Rattle.litmus_test.specs.declared.outcomes.form.OutcomeForm.{OutcomeForm}

-- the exit status if the rounds had these outcomes: 0 if none of them was forbidden
abbrev pub status_of : LitmusTest → List (List ℕ) → ℕ
status_of test outcomes = if count_by (is_forbidden test) outcomes == 0 then 0 else 1

-- The outcomes were written in this form, or which round was stuck.
abbrev pub IsTold : LitmusTest → OutcomeForm → (List ℕ → Type 0) → Run → Type 0
IsTold test form written (runs.Whole table) =
    (outcomes : List (List ℕ)) → IsTableOf outcomes table
    → written (text_of_outcomes form test None table.rows outcomes)
IsTold test form written (runs.Stuck round) = written (text_of_stuck form round)

-- This is the exit status.
abbrev pub HasStatus : LitmusTest → Run → ℕ → Type 0
HasStatus test (runs.Whole table) status =
    (outcomes : List (List ℕ)) → IsTableOf outcomes table → status ≡ status_of test outcomes
HasStatus test (runs.Stuck round) status = status ≡ 1

-- All rounds were played, each had an outcome of the test, and these were written.
pub record IsWhole (test : LitmusTest) (form : OutcomeForm) (written : List ℕ → Type 0) (status : ℕ) : Type 0 where
  pub outcomes : List (List ℕ)
  pub rows : List RowView
  pub rows_are : AreRowsOf outcomes rows
  pub each_round : length outcomes ≡ test.rounds
  pub each : All (IsOutcomeOf test) outcomes
  pub text : written (text_of_outcomes form test None rows outcomes)
  pub status_is : status ≡ status_of test outcomes

-- A round was stuck, and that was written.
pub record IsStuck (test : LitmusTest) (form : OutcomeForm) (written : List ℕ → Type 0) (status : ℕ) : Type 0 where
  pub round : ℕ
  pub is_one : round < test.rounds
  pub text : written (text_of_stuck form round)
  pub status_is : status ≡ 1

-- how a run of a test may end
abbrev pub IsEndOf : LitmusTest → OutcomeForm → (List ℕ → Type 0) → ℕ → Type 0
IsEndOf test form written status = IsWhole test form written status ⊎ IsStuck test form written status
