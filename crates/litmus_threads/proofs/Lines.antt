-- The comment lines of a trace, one after another.
use Rattle.std.proofs.Common.{◌≡◌, ℕ, suc, ◌+◌, ◌-◌, ◌<◌, ◌≤◌, ◌%◌, ◌^◌, List, [], ◌∷◌, ◌++◌, true, false, ap, arith}
use Rattle.std.proofs.Common.{filter, get_or, length, take}
use Rattle.std.proofs.lemmas.List.Sums.{sum_by_more}
use Rattle.std.specs.Prelude.{if◌then◌else◌}
use Rattle.std.specs.List.{flat_map, range_with_len}
use Rattle.address_map.specs.Place.{is_of_slice}
use Rattle.slice_log.specs.Log.{added_to, named}
use Rattle.litmus_threads.specs.Trace.{text_of_counter, text_of_counters}
use Rattle.address_map.specs.declared.config.Config.{Config}
use Rattle.drain.specs.declared.report.CounterValue.{CounterValue}
use Rattle.slice_log.specs.declared.entry.Entry.{Entry}

-- the numbers from this one on, below a limit
abbrev pub numbers_from : ℕ → ℕ → List ℕ
numbers_from number limit = range_with_len number (limit - number)

pub all_numbers : (limit : ℕ) → numbers_from 0 limit ≡ range_with_len 0 limit
all_numbers limit = let all : limit - 0 ≡ limit = omega arith in ap (range_with_len 0) all

-- the text of the next number, and then those of the numbers after it
pub next_number : (text_of : ℕ → List ℕ) (number limit : ℕ) → number < limit
    → flat_map text_of (numbers_from number limit)
    ≡ text_of number ++ flat_map text_of (numbers_from (number + 1) limit)
next_number text_of number limit less =
    let one : limit - number ≡ suc (limit - (number + 1)) = omega (arith, less) in
    ap (λ (n : ℕ). flat_map text_of (range_with_len number n)) one

-- after the last number there is none
pub last_number : (text_of : ℕ → List ℕ) (number limit : ℕ) → limit ≤ number
    → flat_map text_of (numbers_from number limit) ≡ []
last_number text_of number limit past =
    let none : limit - number ≡ 0 = omega (arith, past) in
    ap (λ (n : ℕ). flat_map text_of (range_with_len number n)) none

-- What one more entry adds.
pub named-more : (log : List Entry) (i : ℕ) (d : Entry) (word sum added : ℕ) → i < length log
    → sum ≡ named (take i log) word % 2 ^ 64 → added ≡ added_to word (get_or log i d)
    → (sum + added) % 2 ^ 64 ≡ named (take (i + 1) log) word % 2 ^ 64
named-more log i d word sum added inside so_far adds =
    let more = sum_by_more (added_to word) log i d inside in
    omega (arith, more, adds, so_far)

-- the counters of the slice
abbrev kept_of : Config → ℕ → List CounterValue → List CounterValue
kept_of c slice counters = filter (λ counter. is_of_slice c slice counter.word) counters

-- A counter of the slice has its line, and then those after it have theirs.
pub counters-more : (c : Config) (slice : ℕ) (log : List Entry) (counter : CounterValue) (rest : List CounterValue)
    → is_of_slice c slice counter.word ≡ true
    → text_of_counters c slice log (counter ∷ rest) ≡ text_of_counter c log counter ++ text_of_counters c slice log rest
counters-more c slice log counter rest is =
    ap (λ b. flat_map (text_of_counter c log)
    (if b then counter ∷ kept_of c slice rest else kept_of c slice rest)) is

-- .. and one of another slice has none.
pub counters-same : (c : Config) (slice : ℕ) (log : List Entry) (counter : CounterValue) (rest : List CounterValue)
    → is_of_slice c slice counter.word ≡ false
    → text_of_counters c slice log (counter ∷ rest) ≡ text_of_counters c slice log rest
counters-same c slice log counter rest is =
    ap (λ b. flat_map (text_of_counter c log)
    (if b then counter ∷ kept_of c slice rest else kept_of c slice rest)) is
