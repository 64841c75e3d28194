-- The report: a heading, a line for each core with the sums over the slices, and a line with the messages.
use Rattle.std.specs.Prelude.{◌≡◌, ℕ, ◌-◌, ◌^◌, ◌<◌, min, ◌+◌, List, [], ◌∷◌, ◌++◌, length, map, replicate, sum_by}
use Rattle.std.specs.Prelude.{codes, slice_index_or, All}
use Rattle.std.specs.List.{concat, flat_map, range_with_len}
use Rattle.std.specs.Fmt.{decimal}
use Rattle.std.specs.Borrow.{Bor}
use Rattle.slice_answer.specs.declared.stats.MessageCounts.{MessageCounts}
use Rattle.slice_answer.specs.Stats.{StatsView, no_counts}
use Rattle.stats_report.specs.declared.column.Column.{Column}
use Rattle.stats_report.specs.Column.{columns_of, name_of, count_in}

-- what the slices have counted
abbrev pub views_of : List (Bor StatsView) → List StatsView
views_of stats = map (λ slice. slice.now) stats

-- the slice counts for this core
abbrev pub HasCore : ℕ → StatsView → Type 0
HasCore core slice = core < length slice.cores

-- the slice counts for `cores` cores
abbrev pub HasCores : ℕ → StatsView → Type 0
HasCores cores slice = length slice.cores ≡ cores

-- the slice is of the same machine as far as the report shows it: the same number of cores, and the same setting
pub record IsLike (first other : StatsView) : Type 0 where
  pub cores : HasCores (length first.cores) other
  pub exclusive : other.exclusive ≡ first.exclusive

-- there is a slice, and all others are like the first
abbrev pub AreAlike : List StatsView → Type 0
AreAlike [] = ⊥
AreAlike (first ∷ rest) = All (IsLike first) rest

-- a sum, which stops at the largest number of 64 bits
abbrev pub capped_sum : ℕ → ℕ
capped_sum n = min n (2 ^ 64 - 1)

-- the sum over the slices
abbrev pub total_by : (StatsView → ℕ) → List StatsView → ℕ
total_by count slices = capped_sum (sum_by count slices)

-- what a column shows of one slice, for a core
abbrev pub shown_of : ℕ → Column → StatsView → ℕ
shown_of core column slice = count_in column (slice_index_or slice.cores core no_counts)

-- what it shows of all slices
abbrev pub core_total : List StatsView → ℕ → Column → ℕ
core_total slices core column = total_by (shown_of core column) slices

-- the messages that were taken in all slices
abbrev pub message_totals : List StatsView → MessageCounts
message_totals slices = record {
  requests = total_by (λ slice. slice.messages.requests) slices;
  forwarded = total_by (λ slice. slice.messages.forwarded) slices;
  data_replies = total_by (λ slice. slice.messages.data_replies) slices;
  acknowledgements = total_by (λ slice. slice.messages.acknowledgements) slices;
  home = total_by (λ slice. slice.messages.home) slices;
}

-- two counts of messages together
abbrev pub sum_of : MessageCounts → MessageCounts → MessageCounts
sum_of one other = record {
  requests = capped_sum (one.requests + other.requests);
  forwarded = capped_sum (one.forwarded + other.forwarded);
  data_replies = capped_sum (one.data_replies + other.data_replies);
  acknowledgements = capped_sum (one.acknowledgements + other.acknowledgements);
  home = capped_sum (one.home + other.home);
}

-- a text to the right in 10 places; one that is longer is kept whole
abbrev pub right_in_10 : List ℕ → List ℕ
right_in_10 text = replicate (10 - length text) 32 ++ text

-- the heading
abbrev pub heading_of : List Column → List ℕ
heading_of columns =
    concat (codes "      core" ∷ flat_map (λ column. right_in_10 (name_of column)) columns ∷ codes "\n" ∷ [])

-- what is in a core's line and a column
abbrev pub cell_of : List StatsView → ℕ → Column → List ℕ
cell_of slices core column = right_in_10 (decimal (core_total slices core column))

-- the line of a core
abbrev pub core_line : List Column → List StatsView → ℕ → List ℕ
core_line columns slices core =
    concat (right_in_10 (decimal core) ∷ flat_map (cell_of slices core) columns ∷ codes "\n" ∷ [])

-- the lines of the first cores
abbrev pub core_lines : List Column → List StatsView → ℕ → List ℕ
core_lines columns slices cores = flat_map (core_line columns slices) (range_with_len 0 cores)

-- the line of the messages
abbrev pub message_line : MessageCounts → List ℕ
message_line messages = concat (
    codes "messages req " ∷ decimal messages.requests ∷ codes " fwd " ∷ decimal messages.forwarded
    ∷ codes " data " ∷ decimal messages.data_replies ∷ codes " ack " ∷ decimal messages.acknowledgements
    ∷ codes " home " ∷ decimal messages.home ∷ codes "\n" ∷ [])

-- the whole report
abbrev pub report_of : List StatsView → List ℕ
report_of [] = []
report_of (first ∷ rest) = concat (
    heading_of (columns_of first.exclusive)
    ∷ core_lines (columns_of first.exclusive) (first ∷ rest) (length first.cores)
    ∷ message_line (message_totals (first ∷ rest)) ∷ [])
