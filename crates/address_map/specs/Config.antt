-- Which configurations a machine can be built from.
use Rattle.std.specs.Prelude.{◌≡◌, ◌⊎◌, ℕ, ◌<◌, ◌*◌, Bool, false, ◌==◌, ◌||◌, ◌&&◌, not, nat_le, ◌≤◌, ◌/◌, ◌%◌, List}
use Rattle.std.specs.Prelude.{[], ◌∷◌, length, Option, Result, Ok, Err, find, All, IsTrue, codes}
use Rattle.std.specs.Int.{is_power_of_two}
use Rattle.std.specs.Option.{option_map_or}
use Rattle.address_map.specs.declared.config.Config.{Config}
use Rattle.address_map.specs.declared.config.ConfigError.{ConfigError}
use Rattle.address_map.specs.declared.config.ConfigError.TheVariants as config_errors
use Rattle.address_map.specs.declared.config.PolicyKind.TheVariants as policy_kinds
use Rattle.address_map.specs.Words.{IsAscendingBy, are_words_below}

-- the machine of a text that configures nothing
abbrev pub default_config : Config
default_config = record {
  cores = 2;
  slices = 1;
  lines = 16;
  sets = 4;
  ways = 2;
  mshrs = 4;
  targets = 4;
  writebacks = 2;
  policy = policy_kinds.Lru;
  exclusive = false;
  init = [];
  counters = [];
}

-- how many words the memory has: eight in each line
abbrev pub word_count : Config → ℕ
word_count c = 8 * c.lines

-- the lines of each slice
abbrev pub slice_lines : Config → ℕ
slice_lines c = c.lines / c.slices

-- whether n is at least the one and at most the other
abbrev pub is_within : ℕ → ℕ → ℕ → Bool
is_within least most n = nat_le least n && nat_le n most

-- whether the field that an error names is allowed
abbrev pub allows : Config → ConfigError → Bool
allows c config_errors.Cores = is_within 1 64 c.cores
allows c config_errors.Slices = c.slices == 1 || c.slices == 2 || c.slices == 4
-- the same number of lines in each slice
allows c config_errors.Lines = is_within 1 65536 c.lines && (c.lines % c.slices == 0)
allows c config_errors.Sets = is_power_of_two c.sets && is_within 1 256 c.sets
allows c config_errors.Ways = is_within 1 16 c.ways
allows c config_errors.Mshrs = is_within 1 32 c.mshrs
allows c config_errors.Targets = is_within 1 32 c.targets
allows c config_errors.Writebacks = is_within 1 16 c.writebacks
allows c config_errors.Init = are_words_below (λ pair. pair.0.0) (word_count c) c.init
allows c config_errors.Counters = nat_le (length c.counters) 8
    && are_words_below (λ word. word.0) (word_count c) c.counters

-- the fields that can be invalid, in the order in which they are judged
abbrev pub fields : List ConfigError
fields =
    config_errors.Cores ∷ config_errors.Slices ∷ config_errors.Lines ∷ config_errors.Sets ∷ config_errors.Ways
    ∷ config_errors.Mshrs ∷ config_errors.Targets
    ∷ config_errors.Writebacks ∷ config_errors.Init ∷ config_errors.Counters ∷ []

-- what an error prints: its number in that order, and the field
abbrev pub text_of_error : ConfigError → List ℕ
text_of_error config_errors.Cores = codes "1 Cores"
text_of_error config_errors.Slices = codes "2 Slices"
text_of_error config_errors.Lines = codes "3 Lines"
text_of_error config_errors.Sets = codes "4 Sets"
text_of_error config_errors.Ways = codes "5 Ways"
text_of_error config_errors.Mshrs = codes "6 Mshrs"
text_of_error config_errors.Targets = codes "7 Targets"
text_of_error config_errors.Writebacks = codes "8 Writebacks"
text_of_error config_errors.Init = codes "9 Init"
text_of_error config_errors.Counters = codes "10 Counters"

-- the first invalid field
abbrev pub first_fault : Config → Option ConfigError
first_fault c = find (λ field. not (allows c field)) fields

-- the configuration itself, or its first invalid field
abbrev pub checked_of : Config → Result Config ConfigError
checked_of c = option_map_or (λ fault. Err fault) (first_fault c) (Ok c)

-- the numbers of slices that a machine may have
unfoldable pub IsSliceCount : ℕ → Type 0
IsSliceCount n = (n ≡ 1) ⊎ (n ≡ 2) ⊎ (n ≡ 4)

-- what holds of each configuration that was checked
pub record IsAllowed (c : Config) : Type 0 where
  pub some_core : 1 ≤ c.cores
  pub few_cores : c.cores ≤ 64
  pub some_slice : 1 ≤ c.slices
  pub few_slices : c.slices ≤ 4
  pub slice_counts : IsSliceCount c.slices
  pub some_line : 1 ≤ c.lines
  pub few_lines : c.lines ≤ 65536
  pub even : c.lines % c.slices ≡ 0
  pub some_set : 1 ≤ c.sets
  pub few_sets : c.sets ≤ 256
  pub sets_power : IsTrue (is_power_of_two c.sets)
  pub some_way : 1 ≤ c.ways
  pub few_ways : c.ways ≤ 16
  pub some_mshr : 1 ≤ c.mshrs
  pub few_mshrs : c.mshrs ≤ 32
  pub some_target : 1 ≤ c.targets
  pub few_targets : c.targets ≤ 32
  pub some_writeback : 1 ≤ c.writebacks
  pub few_writebacks : c.writebacks ≤ 16
  pub init_ascending : IsAscendingBy (λ pair. pair.0.0) c.init
  pub init_in_range : All (λ pair. pair.0.0 < word_count c) c.init
  pub few_counters : length c.counters ≤ 8
  pub counters_ascending : IsAscendingBy (λ word. word.0) c.counters
  pub counters_in_range : All (λ word. word.0 < word_count c) c.counters
