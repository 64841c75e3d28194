-- How a judgement of histories ends.
use Rattle.std.specs.Prelude.{◌≡◌, ◌⊎◌, ℕ, List}
use Rattle.litmus_script.specs.Play.{IsOfRun}
use Rattle.litmus_text.specs.declared.fault.TextFault.{TextFault}
use Rattle.history_text.specs.Judged.{IsFaultOf, IsJudgedText}
use Rattle.history_text.specs.declared.extent.Extent.{Extent}
use Rattle.history_text.specs.declared.verdict.Verdict.{Verdict}
use Rattle.history_text.specs.declared.verdict.Verdict.TheVariants as verdicts

-- the exit status: 0 if all that are judged together have an order, and 1 if some have none or it is undecided
abbrev pub status_of : Verdict → ℕ
status_of (verdicts.Coherent orders) = 0
status_of (verdicts.Incoherent number reason) = 1
status_of (verdicts.Undecided number) = 1

-- the verdict on the histories in the text has this status
pub record IsJudgedAs (text : List ℕ) (extent : Extent) (status : ℕ) : Type 0 where
  pub verdict : Verdict
  pub judged : IsJudgedText text extent verdict
  pub is : status ≡ status_of verdict

-- Why a text wasn't judged: memory ran out, its verdict couldn't be written, or a line is invalid.
abbrev pub IsNotJudged : List ℕ → TextFault → Type 0
IsNotJudged text fault = IsOfRun fault ⊎ IsFaultOf text fault
