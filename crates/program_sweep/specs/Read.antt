-- The settings and the seeds that a command line gives, and the rows that they make.
use Rattle.std.specs.Prelude.{◌≡◌, ◌≢◌, ◌⊎◌, ℕ, ◌+◌, ◌-◌, ◌*◌, ◌^◌, ◌<◌, ◌≤◌, ◌==◌, true, List, [], ◌∷◌, ◌++◌, Option}
use Rattle.std.specs.Prelude.{None, Some, codes, length, map}
use Rattle.std.specs.List.{after_first, before_first, slice_split}
use Rattle.std.specs.Str.Parse.{digits_value}
use Rattle.litmus_text.specs.Number.{IsNumber}
use Rattle.program_sweep.specs.declared.fault.SweepFault.{SweepFault}
use Rattle.program_sweep.specs.declared.fault.SweepFault.TheVariants as faults
use Rattle.program_sweep.specs.declared.seeds.Seeds.{Seeds}
use Rattle.program_sweep.specs.declared.setting.Setting.{Setting}
use Rattle.program_sweep.specs.declared.sweep.Sweep.{Sweep}
use Rattle.program_sweep.specs.Text.{may_vary}
use Rattle.program_text.specs.declared.programs.Limits.{Limits}

-- ---- settings

-- the name and the values of a setting
abbrev pub values_of : Setting → List ℕ × List (List ℕ)
values_of setting = (setting.name.now, map (λ value. value.now) setting.values.items)

-- The text gives such a setting: its name is before the first equals sign, and its values after that, between commas.
pub record Says (text : List ℕ) (setting : List ℕ × List (List ℕ)) : Type 0 where
  pub name : setting.0 ≡ before_first (λ b. b == 61) text
  pub known : may_vary setting.0 ≡ true
  pub values : setting.1 ≡ slice_split (λ b. b == 44) (after_first (λ b. b == 61) text)

abbrev pub IsSetting : List ℕ → Setting → Type 0
IsSetting text setting = Says text (values_of setting)

-- each text gives a setting, in order
abbrev pub AreSettings : List (List ℕ) → List Setting → Type 0
AreSettings [] [] = Unit {0}
AreSettings [] (setting ∷ settings) = ⊥
AreSettings (text ∷ texts) [] = ⊥
AreSettings (text ∷ texts) (setting ∷ settings) = IsSetting text setting × AreSettings texts settings

-- ---- seeds

-- the text writes this number
abbrev pub IsNumeralOf : ℕ → List ℕ → Type 0
IsNumeralOf number text = IsNumber text × (digits_value 10 text ≡ number)

-- the text is the first seed and the last, with two dots between them
pub record IsRange (text : List ℕ) (seeds : Seeds) : Type 0 where
  pub first : List ℕ
  pub last : List ℕ
  pub whole : text ≡ first ++ (codes ".." ++ last)
  pub begins : IsNumeralOf seeds.first first
  pub ends : IsNumeralOf (seeds.first + (seeds.count - 1)) last

-- the text gives these seeds: as a range, or one alone
abbrev pub IsSeeds : List ℕ → Seeds → Type 0
IsSeeds text seeds = IsRange text seeds ⊎ (IsNumeralOf seeds.first text × (seeds.count ≡ 1))

-- the text is a range of these numbers
pub record IsRangeOf (text : List ℕ) (from to : ℕ) : Type 0 where
  pub first : List ℕ
  pub last : List ℕ
  pub whole : text ≡ first ++ (codes ".." ++ last)
  pub begins : IsNumeralOf from first
  pub ends : IsNumeralOf to last

-- the text is no range of numbers, and no number alone
abbrev pub IsNoSeeds : List ℕ → Type 0
IsNoSeeds text =
    ((first : List ℕ) × (last : List ℕ) × (text ≡ first ++ (codes ".." ++ last))
    × ((¬ IsNumber first) ⊎ (¬ IsNumber last)))
    ⊎ (((first last : List ℕ) → text ≢ first ++ (codes ".." ++ last)) × (¬ IsNumber text))

-- Why a text gives no seeds: it is neither; or a range that runs backwards; or one of more seeds than can be counted.
abbrev pub IsSeedsFault : List ℕ → SweepFault → Type 0
IsSeedsFault text (faults.BadSeeds said) = (said.now ≡ text) × IsNoSeeds text
IsSeedsFault text (faults.Backwards said) =
    (said.now ≡ text) × (from : ℕ) × (to : ℕ) × IsRangeOf text from to × (to < from)
IsSeedsFault text faults.TooManyRows = IsRangeOf text 0 (2 ^ 64 - 1)
IsSeedsFault text fault = ⊥

-- the same of the first and the last as they were read
abbrev pub IsBoundsFault : List ℕ → Option ℕ → Option ℕ → SweepFault → Type 0
IsBoundsFault text first last (faults.BadSeeds said) = (said.now ≡ text) × ((first ≡ None) ⊎ (last ≡ None))
IsBoundsFault text first last (faults.Backwards said) =
    (said.now ≡ text) × (from : ℕ) × (to : ℕ) × (first ≡ Some from) × (last ≡ Some to) × (to < from)
IsBoundsFault text first last faults.TooManyRows = (first ≡ Some 0) × (last ≡ Some (2 ^ 64 - 1))
IsBoundsFault text first last fault = ⊥

-- ---- rows

-- how many values each setting has
abbrev pub counts_of : List Setting → List ℕ
counts_of settings = map (λ setting. length setting.values.items) settings

-- how many rows there are with these counts of values and `seeds` seeds: one for each combination
abbrev pub rows_of : List ℕ → ℕ → ℕ
rows_of [] seeds = seeds
rows_of (count ∷ counts) seeds = rows_of counts seeds * count

-- how many adjacent rows have the same value of a setting: one for each combination of those after it
abbrev pub spans_of : List ℕ → ℕ → List ℕ
spans_of [] seeds = []
spans_of (count ∷ counts) seeds = rows_of counts seeds ∷ spans_of counts seeds

-- the rows that these texts and seeds make: the last setting varies fastest, and the seeds faster still
pub record IsSweep (texts : List (List ℕ)) (seeds : Seeds) (limits : Limits) (sweep : Sweep) : Type 0 where
  pub settings : AreSettings texts sweep.settings.items
  pub spans : map (λ setting. setting.span) sweep.settings.items
      ≡ spans_of (counts_of sweep.settings.items) seeds.count
  pub rows : sweep.rows ≡ rows_of (counts_of sweep.settings.items) seeds.count
  pub few : sweep.rows ≤ 1000000
  pub same_seeds : sweep.seeds ≡ seeds
  pub same_limits : sweep.limits ≡ limits
