-- A text of programs with other settings.
use Rattle.std.specs.Prelude.{◌≡◌, ℕ, ◌+◌, ◌/◌, ◌%◌, ◌&&◌, Bool, true, false, not, List, [], ◌∷◌, ◌++◌, codes, is_some, length, map}
use Rattle.std.specs.Prelude.{◌||◌, if◌then◌else◌, slice_index_or, Option, None, Some, unwrap_or}
use Rattle.std.specs.List.{flat_map}
use Rattle.std.specs.Option.{SomeIff}
use Rattle.std.specs.Str.Parse.{digits_value}
use Rattle.litmus_text.specs.Number.{IsNumber}
use Rattle.litmus_text.specs.Table.{value_named}
use Rattle.litmus_text.specs.Text.{words_of_line}
use Rattle.program_text.specs.declared.programs.Limits.{Limits}
use Rattle.program_sweep.specs.declared.name.Bound.{Bound}
use Rattle.program_sweep.specs.declared.name.Bound.TheVariants as bound_kinds
use Rattle.program_sweep.specs.declared.seeds.Seeds.{Seeds}
use Rattle.program_sweep.specs.declared.setting.Setting.{Setting}

-- the first words of lines that configure, and whether the last of the lines that begin with one counts
abbrev pub names : List (List ℕ × Bool)
names =
    (codes "cores", true) ∷ (codes "slices", true) ∷ (codes "lines", true) ∷ (codes "sets", true)
    ∷ (codes "ways", true) ∷ (codes "mshrs", true) ∷ (codes "targets", true) ∷ (codes "writebacks", true)
    ∷ (codes "policy", true) ∷ (codes "misses", true) ∷ (codes "exclusive", true)
    ∷ (codes "init", false) ∷ (codes "counter", false) ∷ []

abbrev pub is_name : List ℕ → Bool
is_name word = is_some (value_named names word)

-- the first word is one of them, or there is none
abbrev pub begins_as_setting : List (List ℕ) → Bool
begins_as_setting [] = true
begins_as_setting (word ∷ words) = is_name word

-- the line configures, or has no words
abbrev pub configures : List ℕ → Bool
configures line = begins_as_setting (words_of_line line)

-- a line and its end
abbrev pub ended : List ℕ → List ℕ
ended line = line ++ codes "\n"

-- it is the first line that doesn't configure, where none was before
abbrev pub ends_settings : Bool → List ℕ → Bool
ends_settings is_before line = is_before && not (configures line)

-- the added lines, if they are here
abbrev pub added_if : List ℕ → Bool → List ℕ
added_if added here = if here then added else []

-- The lines of a text that are left, with lines added before the first that doesn't configure, where that is still to
-- come.
abbrev pub left_with : List ℕ → Bool → List (List ℕ) → List ℕ
left_with added is_before [] = added_if added is_before
left_with added is_before (line ∷ more) =
    added_if added (ends_settings is_before line)
    ++ (ended line ++ left_with added (is_before && not (ends_settings is_before line)) more)

-- a text by its lines, with lines added after those that configure
abbrev pub with_settings : List ℕ → List (List ℕ) → List ℕ
with_settings added all = left_with added true all

-- the value of a setting in a row
abbrev pub value_in : Setting → ℕ → List ℕ
value_in setting row =
    slice_index_or (map (λ value. value.now) setting.values.items)
    (row / setting.span % length setting.values.items) []

-- a setting of this name bounds a run in this way
abbrev pub bounds : Bound → List ℕ → Bool
bounds bound_kinds.Outstanding name = is_some (value_named ((codes "outstanding", true) ∷ []) name)
bounds bound_kinds.Pace name = is_some (value_named ((codes "pace", true) ∷ []) name)

-- .. in one of these
abbrev pub is_bound : List ℕ → Bool
is_bound name = bounds bound_kinds.Outstanding name || bounds bound_kinds.Pace name

-- the last of the lines that begin with the word counts
abbrev pub replaces : List ℕ → Bool
replaces word = unwrap_or (value_named names word) false

-- a setting of this name may vary: a later line of it replaces an earlier one, or it has none
abbrev pub may_vary : List ℕ → Bool
may_vary name = is_bound name || replaces name

-- the line that sets it: none where the setting bounds a run
abbrev pub line_of_setting : ℕ → Setting → List ℕ
line_of_setting row setting =
    if is_bound setting.name.now then []
    else setting.name.now ++ codes " " ++ value_in setting row ++ codes "\n"

abbrev pub lines_of_settings : List Setting → ℕ → List ℕ
lines_of_settings settings row = flat_map (line_of_setting row) settings

-- this is the number that the text writes, if it writes one
abbrev pub IsNumberIn : List ℕ → Option ℕ → Type 0
IsNumberIn text number = SomeIff number (IsNumber text) (digits_value 10 text)

-- the first setting that bounds a run in this way, if one does
abbrev pub bounding_in : Bound → List Setting → Option Setting
bounding_in bound [] = None
bounding_in bound (setting ∷ more) = if bounds bound setting.name.now then Some setting else bounding_in bound more

-- the bound of a row: the number in that setting, or else the one that is given on the command line
abbrev pub IsBoundBy : Option Setting → Option ℕ → ℕ → Option ℕ → Type 0
IsBoundBy None given row most = most ≡ given
IsBoundBy (Some setting) given row most = IsNumberIn (value_in setting row) most

abbrev pub IsBoundIn : Bound → List Setting → Option ℕ → ℕ → Option ℕ → Type 0
IsBoundIn bound settings given row most = IsBoundBy (bounding_in bound settings) given row most

-- what bounds the run of a row
pub record AreLimitsIn (settings : List Setting) (given : Limits) (row : ℕ) (limits : Limits) : Type 0 where
  pub outstanding : IsBoundIn bound_kinds.Outstanding settings given.outstanding row limits.outstanding
  pub pace : IsBoundIn bound_kinds.Pace settings given.pace row limits.pace

-- the seed of a row
abbrev pub seed_in : Seeds → ℕ → ℕ
seed_in seeds row = seeds.first + row % seeds.count
