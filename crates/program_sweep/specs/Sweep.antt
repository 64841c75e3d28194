-- The rows of a sweep.
use Rattle.std.specs.Prelude.{◌≡◌, ◌≢◌, ℕ, ◌+◌, ◌<◌, List, [], ◌∷◌, ◌++◌, length, IfOk, Option, Some, Result}
use Rattle.std.specs.Prelude.{slice_index_or}
use Rattle.std.specs.Io.KnownBytes.{Appends}
use Rattle.std.specs.List.{concat}
use Rattle.std.specs.Str.Lines.{lines}
use Rattle.mshr_file.specs.Miss.{bound_of}
use Rattle.litmus_text.specs.declared.fault.TextFault.TheVariants as text_faults
use Rattle.program_run.specs.Run.{limited_to}
use Rattle.program_run.specs.Sums.{IsCounted}
use Rattle.program_run.specs.declared.sums.Sums.{Sums}
use Rattle.program_text.specs.Fault.{IsProgramText, programs_of, settings_of}
use Rattle.program_text.specs.declared.programs.Limits.{Limits}
use Rattle.program_text.specs.declared.programs.Programs.{Programs}
use Rattle.program_sweep.specs.declared.fault.Refusal.{Refusal}
use Rattle.program_sweep.specs.declared.fault.Refusal.TheVariants as refusals
use Rattle.program_sweep.specs.declared.fault.RowFault.{RowFault}
use Rattle.program_sweep.specs.declared.fault.RowFault.TheVariants as row_faults
use Rattle.program_sweep.specs.declared.form.RowForm.{RowForm}
use Rattle.program_sweep.specs.declared.row.Row.{Row}
use Rattle.program_sweep.specs.declared.sweep.Sweep.{Sweep}
use Rattle.program_sweep.specs.Form.{end_of, text_of_row}
use Rattle.program_sweep.specs.Row.{row_of}
use Rattle.program_sweep.specs.Text.{AreLimitsIn, lines_of_settings, seed_in, with_settings}

-- the row has the settings of these programs, the seed, and the sums of their run, which comes to its end
pub record IsRowOf (programs : Programs) (seed : ℕ) (row : Row) : Type 0 where
  pub sums : Sums
  pub counted : IsCounted (bound_of programs.misses programs.config) programs seed (Some sums)
  pub is : row ≡ row_of programs seed sums

-- the row is that of the text with the settings and the seed of row `number`, bounded as settings or the command
-- line say
pub record HasRun (input : List ℕ) (sweep : Sweep) (number : ℕ) (row : Row) : Type 0 where
  pub read : Programs
  pub says : IsProgramText (with_settings (lines_of_settings sweep.settings.items number) (lines input))
      (settings_of read) read.limits (programs_of read)
  pub limits : Limits
  pub bounded : AreLimitsIn sweep.settings.items sweep.limits number limits
  pub has : IsRowOf (limited_to limits read) (seed_in sweep.seeds number) row

-- .. and this is its text
pub record IsRow (input : List ℕ) (sweep : Sweep) (program : List ℕ) (form : RowForm) (number : ℕ) (text : List ℕ) :
    Type 0 where
  pub row : Row
  pub run : HasRun input sweep number row
  pub written : text ≡ text_of_row form program number row

-- the rows from this one on, in order
abbrev pub AreRows : List ℕ → Sweep → List ℕ → RowForm → ℕ → List (List ℕ) → Type 0
AreRows input sweep program form first [] = Unit {0}
AreRows input sweep program form first (text ∷ more) =
    IsRow input sweep program form first text × AreRows input sweep program form (first + 1) more

-- `count` rows from row `first` on are written
pub record PrintsRows (input : List ℕ) (sweep : Sweep) (program : List ℕ) (form : RowForm) (first count : ℕ)
    (before after : Option (List ℕ)) : Type 0 where
  pub texts : List (List ℕ)
  pub many : length texts ≡ count
  pub rows : AreRows input sweep program form first texts
  pub printed : Appends before after (concat texts)

-- all rows are written, and what follows them
pub record PrintsSweep (input : List ℕ) (sweep : Sweep) (program : List ℕ) (form : RowForm) (count : ℕ)
    (before after : Option (List ℕ)) : Type 0 where
  pub texts : List (List ℕ)
  pub many : length texts ≡ count
  pub rows : AreRows input sweep program form 0 texts
  pub printed : Appends before after (concat texts ++ end_of form)

-- what making a row comes to, where it comes to one
abbrev pub MakesRow : List ℕ → Sweep → ℕ → Result Row Refusal → Type 0
MakesRow input sweep number made = IfOk made (HasRun input sweep number)

-- each of `count` of these, from row `first` on
abbrev pub MakesRows : List ℕ → Sweep → ℕ → ℕ → List (Result Row Refusal) → Type 0
MakesRows input sweep first count made =
    (place : ℕ) (d : Result Row Refusal) → place < count
    → MakesRow input sweep (first + place) (slice_index_or made place d)

-- running out of memory is reported as such, and not as a row's refusal
abbrev pub IsRowFault : RowFault → Type 0
IsRowFault (row_faults.Row row refusal) = refusal ≢ refusals.Text text_faults.NoMemory
IsRowFault fault = Unit {0}
