-- Why the chart of a script that was read ends early.
use Rattle.std.proofs.Common.{◌≡◌, ◌⊎◌, ℕ, List, Option, inl, inr, subst}
use Rattle.address_map.specs.declared.config.Config.{Config}
use Rattle.litmus_chart.specs.Fault.{Draws, IsChartFault, ChartStopsAt}
use Rattle.mshr_file.specs.Miss.{bound_of}
use Rattle.litmus_script.specs.Play.{IsOfRun, PlaysUpTo}
use Rattle.litmus_script.specs.Script.{IsScript, commands_of}
use Rattle.litmus_script.specs.declared.script.Script.{Script}
use Rattle.litmus_text.specs.declared.fault.TextFault.{TextFault}

pub fault_of_script : (all : List (ℕ × List (List ℕ))) (script : Script) (fault : TextFault) → IsScript all script
    → IsOfRun fault ⊎ ChartStopsAt script.config (commands_of script.commands) fault → IsChartFault all fault
fault_of_script all script fault read (inl of_run) = inr (inl of_run)
fault_of_script all script fault read (inr stopped) = inr (inr (
  script.config,
  bound_of script.misses script.config,
  commands_of script.commands,
  read,
  stopped,
))

-- the machine that is drawn has the script's shape
pub stops : (config other : Config) (commands : List (ℕ × List (List ℕ)))
    (before after : Option (List ℕ)) (fault : TextFault)
    → other ≡ config → PlaysUpTo Draws other commands tt before after fault → ChartStopsAt config commands fault
stops config other commands before after fault same stopped = record {
  before = before;
  after = after;
  stopped = subst (λ (k : Config). PlaysUpTo Draws k commands tt before after fault) same stopped;
}
