-- Why a text isn't read is why nothing is done with it.
use Rattle.std.proofs.Common.{ℕ, List, inl, inr}
use Rattle.std.specs.Str.Lines.{lines}
use Rattle.litmus_test.specs.Fault.{IsFault}
use Rattle.litmus_test.specs.Reading.{IsNoMemoryOr}
use Rattle.litmus_test.specs.Text.{IsFaultAt, IsLitmusTest, Said}
use Rattle.litmus_text.specs.Fault.{IsAtLine}
use Rattle.litmus_text.specs.Statement.{statements_from}
use Rattle.litmus_text.specs.declared.fault.TextFault.{TextFault}
use Rattle.litmus_text.specs.declared.fault.TextFault.TheVariants as text_faults
use Rattle.litmus.specs.Tests.{IsTestNotRun}

pub not-run : (text : List ℕ) (fault : TextFault) → IsNoMemoryOr ((whole : Said) → ¬ IsLitmusTest text whole) fault
    → IsAtLine (IsFaultAt (statements_from 0 (lines text))) fault → IsFault (statements_from 0 (lines text)) fault
    → IsTestNotRun text fault
not-run text text_faults.NoMemory refused line wrong = inl tt
not-run text text_faults.CannotWrite refused line wrong = absurd refused
not-run text (text_faults.Line number fault) refused line wrong = inr (refused, line, wrong)
not-run text (text_faults.Config error) refused line wrong = inr (refused, line, wrong)
