-- A script that was read is run.
use Rattle.std.proofs.Common.{ℕ, List, Option, inr}
use Rattle.litmus_text.specs.declared.fault.TextFault.{TextFault}
use Rattle.mshr_file.specs.Miss.{bound_of}
use Rattle.litmus_script.specs.Script.{IsPlayedOn, IsPlayedUpTo, IsRun, IsRunUpTo, IsScript, Playing}
use Rattle.litmus_script.specs.Script.{commands_of}
use Rattle.litmus_script.specs.declared.script.Script.{Script}

-- a fault ends the run of what was read
pub run_up_to : (plays : Playing) (all : List (ℕ × List (List ℕ))) (script : Script)
    (before after : Option (List ℕ)) (fault : TextFault)
    → IsScript all script
    → IsPlayedUpTo plays script.config (bound_of script.misses script.config)
    (commands_of script.commands) before after fault
    → IsRunUpTo plays all before after fault
run_up_to plays all script before after fault read played = inr (script.config, _, _, read, played)

-- it is run to its end
pub run_of : (plays : Playing) (all : List (ℕ × List (List ℕ))) (script : Script) (before after : Option (List ℕ))
    → IsScript all script
    → IsPlayedOn plays script.config (bound_of script.misses script.config) (commands_of script.commands) before after
    → IsRun plays all before after
run_of plays all script before after read played = inr (script.config, _, _, read, played)
