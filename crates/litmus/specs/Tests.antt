-- What is done with the litmus test that a text writes.
use Rattle.std.specs.Prelude.{ℕ, ◌⊎◌, List}
use Rattle.std.specs.Str.Lines.{lines}
use Rattle.litmus_script.specs.Play.{IsOfRun}
use Rattle.litmus_test.specs.Fault.{IsFault}
use Rattle.litmus_test.specs.Text.{IsFaultAt, IsLitmusTest, Said, said_by}
use Rattle.litmus_test.specs.declared.test.LitmusTest.{LitmusTest}
use Rattle.litmus_text.specs.Fault.{IsAtLine}
use Rattle.litmus_text.specs.Statement.{statements_from}
use Rattle.litmus_text.specs.declared.fault.TextFault.{TextFault}

-- the text writes a test, and this holds of it
pub record IsOfTest (text : List ℕ) (holds : LitmusTest → Type 0) : Type 0 where
  pub test : LitmusTest
  pub written : IsLitmusTest text (said_by test)
  pub is : holds test

-- Why nothing was done with it: memory ran out, the output couldn't be written, or the text writes no test. Then the
-- fault names the first invalid line and says what is wrong with it, or which field of the configuration is refused.
abbrev pub IsTestNotRun : List ℕ → TextFault → Type 0
IsTestNotRun text fault =
    IsOfRun fault
    ⊎ (((whole : Said) → ¬ IsLitmusTest text whole) × IsAtLine (IsFaultAt (statements_from 0 (lines text))) fault
    × IsFault (statements_from 0 (lines text)) fault)
