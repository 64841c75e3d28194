-- The traces of a script that is printed: each slice's log once its commands were played.
use Rattle.std.specs.Prelude.{◌≡◌, ◌⊎◌, ℕ, List, [], ◌++◌, Option, Some}
use Rattle.std.specs.Io.KnownBytes.{Appends}
use Rattle.std.specs.List.{flat_map, range_with_len}
use Rattle.std.specs.Str.Lines.{lines}
use Rattle.address_map.specs.declared.config.Config.{Config}
use Rattle.litmus_script.specs.Machine.{IsNewMachine, init_at, log_at}
use Rattle.litmus_script.specs.Play.{IsOfRun, PlaysAll}
use Rattle.litmus_script.specs.Script.{IsRunUpTo, IsSetUp, Plainly}
use Rattle.litmus_script.specs.Shown.{text_of_trace}
use Rattle.litmus_text.specs.Statement.{statements_from}
use Rattle.litmus_text.specs.declared.fault.TextFault.{TextFault}
use Rattle.litmus_threads.specs.Trace.{heading_of}
use Rattle.mshr_file.specs.Miss.{Bound}
use Rattle.slice_core_spec.specs.Calls.{PartsView}

-- a slice's log as a trace, as the command `log` shows it, after a line that names the slice if there are several
abbrev pub text_of_slice : Config → List PartsView → ℕ → List ℕ
text_of_slice c slices slice =
    heading_of c slice ++ text_of_trace c.cores (init_at slices slice) (log_at slices slice)

-- those of the slices below this number, one after another
abbrev pub text_of_slices : Config → List PartsView → ℕ → List ℕ
text_of_slices c slices limit = flat_map (text_of_slice c slices) (range_with_len 0 limit)

-- The commands are played on a new machine, whatever they answer, and what each slice has performed by then is written.
pub record IsTracedOn (config : Config) (bound : Bound) (commands : List (ℕ × List (List ℕ)))
    (before after : Option (List ℕ)) : Type 0 where
  pub start : List PartsView
  pub fresh : IsNewMachine config bound start
  pub end : List PartsView
  pub answers : Option (List ℕ)
  pub played : PlaysAll (Plainly config) config commands start end (Some []) answers
  pub written : Appends before after (text_of_slices config end config.slices)

-- the traces of a script; an empty one has none
abbrev pub AreTraces : List (ℕ × List (List ℕ)) → Option (List ℕ) → Option (List ℕ) → Type 0
AreTraces all before after =
    ((all ≡ []) × (after ≡ before))
    ⊎ ((config : Config) × (bound : Bound) × (commands : List (ℕ × List (List ℕ)))
    × IsSetUp all config bound commands × IsTracedOn config bound commands before after)

-- why they aren't written whole: memory ran out, or the output couldn't be written, or the run stops at a fault
abbrev pub IsNotTraced : List (ℕ × List (List ℕ)) → TextFault → Type 0
IsNotTraced all fault =
    IsOfRun fault ⊎ ((after : Option (List ℕ)) × IsRunUpTo Plainly all (Some []) after fault)

-- The script's traces are written. As a record it isn't unfolded where it is passed on.
pub record HasTraces (script : List ℕ) (before after : Option (List ℕ)) : Type 0 where
  pub are : AreTraces (statements_from 0 (lines script)) before after

-- .. or not whole
pub record HasTracesFault (script : List ℕ) (fault : TextFault) : Type 0 where
  pub is : IsNotTraced (statements_from 0 (lines script)) fault
