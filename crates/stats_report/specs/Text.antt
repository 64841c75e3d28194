-- Texts that are written, and what the errors print.
use Rattle.std.specs.Prelude.{ℕ, ◌<◌, List, length, take, codes, Option}
use Rattle.std.specs.Io.KnownBytes.{Appends, Keeps}
use Rattle.stats_report.specs.declared.write.Cut.{Cut}
use Rattle.stats_report.specs.declared.report.ReportError.{ReportError}
use Rattle.stats_report.specs.declared.report.ReportError.TheVariants as report_errors

-- the first `cut.taken` bytes of the text were written, and not all
pub record AppendsFirst (old new : Option (List ℕ)) (text : List ℕ) (cut : Cut) : Type 0 where
  pub first : Appends old new (take cut.taken text)
  pub short : cut.taken < length text

-- what a report that failed leaves: nothing where there was no memory, and else the first bytes
abbrev pub LeavesOnly : Option (List ℕ) → Option (List ℕ) → List ℕ → ReportError → Type 0
LeavesOnly old new text report_errors.Memory = Keeps old new
LeavesOnly old new text (report_errors.Cut cut) = AppendsFirst old new text cut

-- what an error prints
abbrev pub text_of_error : ReportError → List ℕ
text_of_error report_errors.Memory = codes "no memory"
text_of_error (report_errors.Cut cut) = codes "cannot write"
