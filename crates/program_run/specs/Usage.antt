-- What cores' accesses under way take up, over the moves of a run.
use Rattle.std.specs.Prelude.{ℕ, ◌+◌, ◌*◌, ◌/◌, ◌%◌, ◌==◌, if◌then◌else◌, List, [], ◌∷◌, max, slice_index_or}
use Rattle.slice_answer.specs.Stats.{next_count}
use Rattle.stats_report.specs.Report.{capped_sum}
use Rattle.program_run.specs.declared.usage.Usage.{Usage}

-- nothing was measured
abbrev pub no_usage : Usage
no_usage = record { moves = 0; most_registers = 0; sum_registers = 0; most_targets = 0; sum_targets = 0 }

-- `registers` and `targets` are in use after one more move
abbrev pub measured : ℕ → ℕ → Usage → Usage
measured registers targets usage = record {
  moves = next_count usage.moves;
  most_registers = max usage.most_registers registers;
  sum_registers = capped_sum (usage.sum_registers + registers);
  most_targets = max usage.most_targets targets;
  sum_targets = capped_sum (usage.sum_targets + targets);
}

-- two cores of one run together: the most of either, and the sums of both. A core without a program has no moves.
abbrev pub usages_together : Usage → Usage → Usage
usages_together one other = record {
  moves = max one.moves other.moves;
  most_registers = max one.most_registers other.most_registers;
  sum_registers = capped_sum (one.sum_registers + other.sum_registers);
  most_targets = max one.most_targets other.most_targets;
  sum_targets = capped_sum (one.sum_targets + other.sum_targets);
}

-- these cores together, with those before
abbrev pub usage_of_all : Usage → List Usage → Usage
usage_of_all before [] = before
usage_of_all before (usage ∷ more) = usage_of_all (usages_together before usage) more

-- the mean over `moves` moves: its whole part, and the first two places after the point
abbrev pub whole_of : ℕ → ℕ → ℕ
whole_of sum moves = if moves == 0 then 0 else sum / moves

abbrev pub hundredths_of : ℕ → ℕ → ℕ
hundredths_of sum moves = if moves == 0 then 0 else sum % moves * 100 / moves

-- what was measured of a core
abbrev pub usage_at : List Usage → ℕ → Usage
usage_at usages core = slice_index_or usages core no_usage
