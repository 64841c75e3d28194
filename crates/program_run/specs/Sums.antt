-- The sums of a run.
use Rattle.std.specs.Prelude.{◌≡◌, ℕ, false, Option, Some, None}
use Rattle.address_map.specs.declared.config.Config.{Config}
use Rattle.mshr_file.specs.Miss.{Bound}
use Rattle.program_text.specs.declared.programs.Programs.{Programs}
use Rattle.program_run.specs.Run.{IsNewRun, IsOver, RunState, Runs, usages_of}
use Rattle.program_run.specs.Tally.{new_tally, tally_after, totals_of}
use Rattle.program_run.specs.Usage.{no_usage, usage_of_all}
use Rattle.program_run.specs.declared.sums.Sums.{Sums}

-- what was counted of all lines together, and what was in use of all cores together
abbrev pub sums_of : Config → Programs → RunState → Sums
sums_of config programs run = record {
  counts = totals_of (tally_after (new_tally config.cores config.lines) run.history.counted).lines;
  usage = usage_of_all no_usage (usages_of config.cores programs run.places);
}

-- these are the sums if the run is over, and there are none if it isn't
pub record AreSums (config : Config) (programs : Programs) (run : RunState) (sums : Option Sums) : Type 0 where
  pub over : IsOver programs run → sums ≡ Some (sums_of config programs run)
  pub stuck : ¬ IsOver programs run → sums ≡ None

-- The programs are run on a new machine by the moves that the seed draws, and these are the sums at the run's end.
pub record IsCounted (bound : Bound) (programs : Programs) (seed : ℕ) (sums : Option Sums) : Type 0 where
  pub start : RunState
  pub new : IsNewRun programs.config bound programs false start
  pub end : RunState
  pub runs : Runs programs.config programs seed start end
  pub counted : AreSums programs.config programs end sums
