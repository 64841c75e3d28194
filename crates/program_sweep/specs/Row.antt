-- What a row has of a run.
use Rattle.std.specs.Prelude.{ℕ}
use Rattle.program_run.specs.declared.sums.Sums.{Sums}
use Rattle.program_sweep.specs.declared.row.Row.{Row}
use Rattle.program_text.specs.declared.programs.Programs.{Programs}

-- the row of a run of these programs that counted these sums
abbrev pub row_of : Programs → ℕ → Sums → Row
row_of programs seed sums = record {
  cores = programs.config.cores;
  slices = programs.config.slices;
  lines = programs.config.lines;
  sets = programs.config.sets;
  ways = programs.config.ways;
  mshrs = programs.config.mshrs;
  targets = programs.config.targets;
  writebacks = programs.config.writebacks;
  policy = programs.config.policy;
  misses = programs.misses;
  exclusive = programs.config.exclusive;
  limits = programs.limits;
  seed = seed;
  sums = sums;
}
