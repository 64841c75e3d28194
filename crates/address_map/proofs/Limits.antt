-- A configuration without a fault is within all limits.
use Rattle.std.proofs.Common.{◌≡◌, ℕ, ◌<◌, ◌≤◌, Bool, true, List, length, get_or, None, ◌%◌, arith, lit<}
use Rattle.std.specs.Prelude.{All, nat_lt, not, ◌==◌, ◌||◌, nat_le}
use Rattle.std.specs.Int.{is_power_of_two}
use Rattle.std.proofs.lemmas.Bool.{and_parts, leb-true, ltb-true, eqb-true, not-false}
use Rattle.std.proofs.lemmas.Bool.Decides.{nat_tests}
use Rattle.std.proofs.lemmas.List.Elements.{All-weaker}
use Rattle.std.proofs.lemmas.List.Sums.{AllPass-from_list_all}
use Rattle.std.specs.List.{list_all}
use Rattle.address_map.specs.declared.config.Config.{Config}
use Rattle.address_map.specs.declared.config.ConfigError.{ConfigError}
use Rattle.address_map.specs.declared.config.ConfigError.TheVariants as config_errors
use Rattle.address_map.specs.Config.{IsAllowed, IsSliceCount, first_fault, fields, allows, is_within, word_count}
use Rattle.address_map.specs.Words.{is_ascending_by, IsAscendingBy, are_words_below}
use Rattle.address_map.proofs.Ascending.{IsAscendingBy-from_test}
use Rattle.address_map.proofs.Find.{All-from_find_none}

-- Where no field is invalid, the field at each place of the order passes, so each one does.
passes-at : (c : Config) → first_fault c ≡ None
    → (k : ℕ) (d : ConfigError) → k < length fields → allows c (get_or fields k d) ≡ true
passes-at c none k d inside =
    not-false (allows c (get_or fields k d)) (All-from_find_none (λ field. not (allows c field)) fields none k d inside)

passes : (c : Config) → first_fault c ≡ None → (field : ConfigError) → allows c field ≡ true
passes c none config_errors.Cores = passes-at c none 0 config_errors.Cores (lit< tt)
passes c none config_errors.Slices = passes-at c none 1 config_errors.Slices (lit< tt)
passes c none config_errors.Lines = passes-at c none 2 config_errors.Lines (lit< tt)
passes c none config_errors.Sets = passes-at c none 3 config_errors.Sets (lit< tt)
passes c none config_errors.Ways = passes-at c none 4 config_errors.Ways (lit< tt)
passes c none config_errors.Mshrs = passes-at c none 5 config_errors.Mshrs (lit< tt)
passes c none config_errors.Targets = passes-at c none 6 config_errors.Targets (lit< tt)
passes c none config_errors.Writebacks = passes-at c none 7 config_errors.Writebacks (lit< tt)
passes c none config_errors.Init = passes-at c none 8 config_errors.Init (lit< tt)
passes c none config_errors.Counters = passes-at c none 9 config_errors.Counters (lit< tt)

-- what the tests of the fields say
is_within-true : (least most n : ℕ) → is_within least most n ≡ true → (least ≤ n) × (n ≤ most)
is_within-true least most n within =
    let parts = and_parts (nat_le least n) (nat_le n most) within in
    (leb-true least n parts.0, leb-true n most parts.1)

slices-true : (n : ℕ) → (n == 1 || n == 2 || n == 4) ≡ true → IsSliceCount n
unfolding IsSliceCount
slices-true n few = grind (arith, nat_tests)

slices-some : (n : ℕ) → IsSliceCount n → (1 ≤ n) × (n ≤ 4)
unfolding IsSliceCount
slices-some n few = (omega (arith, few), omega (arith, few))

words-true : {X : Type 0} (word : X → ℕ) (limit : ℕ) (xs : List X)
    → are_words_below word limit xs ≡ true → IsAscendingBy word xs × All (λ x. word x < limit) xs
words-true {X} word limit xs both =
    let below : X → Bool = λ x. nat_lt (word x) limit in
    let parts = and_parts (is_ascending_by word xs) (list_all below xs) both in
    let each_below = AllPass-from_list_all below xs parts.1 in
    let in_range =
    All-weaker (λ x. below x ≡ true) (λ x. word x < limit) (λ x. ltb-true (word x) limit) xs each_below in
    (IsAscendingBy-from_test word xs parts.0, in_range)

pub IsAllowed-from_no_fault : (c : Config) → first_fault c ≡ None → IsAllowed c
IsAllowed-from_no_fault c none =
    let cores = is_within-true 1 64 c.cores (passes c none config_errors.Cores) in
    let slice_counts = slices-true c.slices (passes c none config_errors.Slices) in
    let slices = slices-some c.slices slice_counts in
    let lines = and_parts (is_within 1 65536 c.lines) (c.lines % c.slices == 0) (passes c none config_errors.Lines) in
    let line_count = is_within-true 1 65536 c.lines lines.0 in
    let sets = and_parts (is_power_of_two c.sets) (is_within 1 256 c.sets) (passes c none config_errors.Sets) in
    let set_count = is_within-true 1 256 c.sets sets.1 in
    let ways = is_within-true 1 16 c.ways (passes c none config_errors.Ways) in
    let mshrs = is_within-true 1 32 c.mshrs (passes c none config_errors.Mshrs) in
    let targets = is_within-true 1 32 c.targets (passes c none config_errors.Targets) in
    let writebacks = is_within-true 1 16 c.writebacks (passes c none config_errors.Writebacks) in
    let init = words-true (λ pair. pair.0.0) (word_count c) c.init (passes c none config_errors.Init) in
    let counters_below = are_words_below (λ word. word.0) (word_count c) c.counters in
    let counters = and_parts (nat_le (length c.counters) 8) counters_below (passes c none config_errors.Counters) in
    let counter_words = words-true (λ word. word.0) (word_count c) c.counters counters.1 in
    record {
      some_core = cores.0;
      few_cores = cores.1;
      some_slice = slices.0;
      few_slices = slices.1;
      slice_counts = slice_counts;
      some_line = line_count.0;
      few_lines = line_count.1;
      even = eqb-true (c.lines % c.slices) 0 lines.1;
      some_set = set_count.0;
      few_sets = set_count.1;
      sets_power = sets.0;
      some_way = ways.0;
      few_ways = ways.1;
      some_mshr = mshrs.0;
      few_mshrs = mshrs.1;
      some_target = targets.0;
      few_targets = targets.1;
      some_writeback = writebacks.0;
      few_writebacks = writebacks.1;
      init_ascending = init.0;
      init_in_range = init.1;
      few_counters = leb-true (length c.counters) 8 counters.0;
      counters_ascending = counter_words.0;
      counters_in_range = counter_words.1;
    }
