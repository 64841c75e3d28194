-- The report: the seed, a table of the cores, and one of the lines that were asked for, which ends with the sums. Where
-- several accesses of a core may be under way, two further tables of the cores follow it, and at the end how many moves
-- delivered.
use Rattle.std.specs.Prelude.{ℕ, ◌/◌, ◌%◌, ◌==◌, Bool, true, false, List, [], ◌++◌, codes, decimal, if◌then◌else◌, length}
use Rattle.std.specs.List.{flat_map, range_with_len}
use Rattle.stats_report.specs.Report.{right_in_10}
use Rattle.program_run.specs.declared.column.Column.{Column}
use Rattle.program_run.specs.declared.tally.Counts.{Counts}
use Rattle.program_run.specs.Column.{core_columns, count_in, line_columns, name_of, pace_columns, parallel_columns}
use Rattle.program_run.specs.Tally.{TallyView, counts_at, requests_of, totals_of}
use Rattle.program_run.specs.Usage.{hundredths_of, no_usage, usage_at, usage_of_all, whole_of}
use Rattle.program_text.specs.Judged.{is_limited}
use Rattle.program_text.specs.declared.programs.Limits.{Limits}
use Rattle.program_run.specs.declared.usage.Usage.{Usage}

-- the names of columns
abbrev pub names_of : List Column → List ℕ
names_of columns = flat_map (λ column. right_in_10 (name_of column)) columns

-- .. after a title
abbrev pub heading_of : List ℕ → List Column → List ℕ
heading_of title columns = title ++ names_of columns ++ codes "\n"

-- what columns show of some counts
abbrev pub counts_of : List Column → Counts → List ℕ
counts_of columns counts = flat_map (λ column. right_in_10 (decimal (count_in column counts))) columns

-- .. after the number of a core or a line
abbrev pub row_of : ℕ → List Column → Counts → List ℕ
row_of number columns counts = right_in_10 (decimal number) ++ counts_of columns counts ++ codes "\n"

-- what columns show of the cores
abbrev pub core_rows : List Column → List Counts → List ℕ
core_rows columns cores =
    flat_map (λ core. row_of core columns (counts_at cores core)) (range_with_len 0 (length cores))

-- the further table, where several accesses of a core may be under way
abbrev pub parallel_table : Bool → List Counts → List ℕ
parallel_table false cores = []
parallel_table true cores = heading_of (codes "      core") parallel_columns ++ core_rows parallel_columns cores

-- a mean with two places after the point
abbrev pub mean_of : ℕ → ℕ → List ℕ
mean_of sum moves =
    right_in_10 (decimal (whole_of sum moves))
    ++ (codes "." ++ (decimal (hundredths_of sum moves / 10) ++ decimal (hundredths_of sum moves % 10)))

-- what was in use of a core: the most, and the mean over the moves
abbrev pub usage_row : ℕ → Usage → List ℕ
usage_row core usage =
    right_in_10 (decimal core) ++ right_in_10 (decimal usage.most_registers) ++ mean_of usage.sum_registers usage.moves
    ++ right_in_10 (decimal usage.most_targets) ++ mean_of usage.sum_targets usage.moves ++ codes "\n"

abbrev pub usage_rows : List Usage → List ℕ
usage_rows usages = flat_map (λ core. usage_row core (usage_at usages core)) (range_with_len 0 (length usages))

-- the table of what was in use, where several accesses of a core may be under way
abbrev pub usage_table : Bool → List Usage → List ℕ
usage_table false usages = []
usage_table true usages =
    codes "      core regs-most    regs-mean tgts-most    tgts-mean\n" ++ usage_rows usages

-- the row of a line, where it was asked for
abbrev pub line_row : ℕ → Counts → List ℕ
line_row line counts = if requests_of counts == 0 then [] else row_of line line_columns counts

-- the rows of the lines
abbrev pub line_rows : List Counts → List ℕ
line_rows lines = flat_map (λ line. line_row line (counts_at lines line)) (range_with_len 0 (length lines))

-- how many moves there were, and how many of them delivered, if it is given how many deliveries each slice makes
abbrev pub pace_table : Bool → ℕ → Counts → List ℕ
pace_table false moves all = []
pace_table true moves all = heading_of (codes "     moves") pace_columns ++ row_of moves pace_columns all

-- the whole report
abbrev pub report_of : TallyView → List Usage → Limits → ℕ → List ℕ
report_of tally usages limits seed =
    codes "seed " ++ decimal seed ++ codes "\n"
    ++ heading_of (codes "      core") core_columns ++ core_rows core_columns tally.cores
    ++ heading_of (codes "      line") line_columns ++ line_rows tally.lines
    ++ codes "       all" ++ counts_of line_columns (totals_of tally.lines) ++ codes "\n"
    ++ parallel_table (is_limited limits.outstanding) tally.cores
    ++ usage_table (is_limited limits.outstanding) usages
    ++ pace_table (is_limited limits.pace) (usage_of_all no_usage usages).moves (totals_of tally.lines)
