-- A script's run as waves: what the signals of its lines and of the cores are after each command.
use Rattle.std.specs.Prelude.{◌≡◌, ◌⊎◌, ℕ, ◌+◌, ◌%◌, ◌^◌, List, [], ◌++◌, Option, Some}
use Rattle.std.specs.Io.KnownBytes.{Appends}
use Rattle.std.specs.Str.Lines.{lines}
use Rattle.address_map.specs.Config.{default_config}
use Rattle.address_map.specs.declared.address.LineAddr.{LineAddr}
use Rattle.address_map.specs.declared.config.Config.{Config}
use Rattle.litmus_script.specs.Machine.{IsNewMachine}
use Rattle.litmus_script.specs.Play.{IsOfRun, PlaysAll, PlaysUpTo}
use Rattle.litmus_script.specs.Prints.{IsPrinted}
use Rattle.litmus_script.specs.Pump.{IsDelivered, Pumps}
use Rattle.litmus_script.specs.declared.answers.Pumped.{Pumped}
use Rattle.litmus_script.specs.Script.{IsNotConfigured, IsSetUp}
use Rattle.litmus_text.specs.Command.{parts_of}
use Rattle.litmus_text.specs.declared.command.Command.{Command}
use Rattle.litmus_text.specs.declared.command.Command.TheVariants as commands
use Rattle.litmus_text.specs.declared.fault.TextFault.{TextFault}
use Rattle.mshr_file.specs.Miss.{Bound}
use Rattle.script_waves.specs.Changes.{changes}
use Rattle.script_waves.specs.InUse.{text_of_uses}
use Rattle.script_waves.specs.Named.{Names, line_named}
use Rattle.script_waves.specs.Signals.{text_of_header}
use Rattle.script_waves.specs.Values.{text_of_command, text_of_lines, text_of_time}
use Rattle.script_waves.specs.declared.player.Waved.{Waved}
use Rattle.litmus_text.specs.Line.{text_of_parts}
use Rattle.slice_answer.specs.declared.answer.Delivery.TheVariants as deliveries
use Rattle.slice_answer.specs.declared.answer.Delivery.{Delivery}
use Rattle.slice_core_spec.specs.Calls.{PartsView}
use Rattle.slice_queues.specs.declared.channel.Pick.{Pick}

-- what is known of a run: the machine's slices, the lines that were named, how many commands were played and deliveries of
-- pumps made, and the values that follow the last
pub record Shown : Type 0 where
  pub slices : List PartsView
  pub named : List LineAddr
  pub played : ℕ
  pub values : List ℕ

abbrev pub shown_by : Waved → Shown
shown_by player = record {
  slices = player.machine.slices.items;
  named = player.named.items;
  played = player.played;
  values = player.values.items;
}

-- one more than a count of 64 bits
abbrev pub next : ℕ → ℕ
next count = (count + 1) % 2 ^ 64

-- what each core has in use of each slice, and what the slices have of these lines
abbrev pub text_of_values : Config → List PartsView → List LineAddr → List ℕ
text_of_values config slices named = text_of_uses config.cores 0 slices ++ text_of_lines config slices named

-- after a command on this line: the time, the command, and which values it changed
abbrev pub text_of_tick : List ℕ → ℕ → List ℕ → List ℕ → List ℕ
text_of_tick line played before values =
    text_of_time played ++ (text_of_command line ++ changes (lines before) (lines values))

-- What a command changed is shown, with this line: it takes one unit of time.
pub record IsShown (config : Config) (line : List ℕ) (command : Command) (old new : Shown)
    (before after : Option (List ℕ)) : Type 0 where
  pub names : Names config (line_named command) old.named new.named
  pub counted : new.played ≡ next old.played
  pub values : new.values ≡ text_of_values config new.slices new.named
  pub written : Appends before after (text_of_tick line new.played old.values new.values)

-- The command is played, as it is where its answer is printed, and shown.
pub record IsTick (config : Config) (line : List ℕ) (command : Command) (old new : Shown)
    (before after : Option (List ℕ)) : Type 0 where
  pub answer : List ℕ
  pub made : IsPrinted config command old.slices new.slices (Some []) (Some answer)
  pub shown : IsShown config line command old new before after

-- a delivery of a pump is shown as the command that makes it would be, and none isn't
abbrev pub ShowsNext : Config → Delivery Pick → Shown → Option (List ℕ) → Option (List ℕ) → Shown → Type 0
ShowsNext config (deliveries.Moved pick) old before after new =
    let command = commands.Deliver pick in
    IsShown config (text_of_parts (parts_of command)) command old new before after
ShowsNext config answer old before after new =
    (after ≡ before) × (new.named ≡ old.named) × (new.played ≡ old.played) × (new.values ≡ old.values)

-- the next delivery of a slice is made, and shown
pub record IsNextTick (config : Config) (old : Shown) (slice : ℕ) (answer : Delivery Pick)
    (before after : Option (List ℕ)) (new : Shown) : Type 0 where
  pub made : IsDelivered slice answer old.slices new.slices
  pub shown : ShowsNext config answer old before after new

-- A pump: a unit of time for each of its deliveries, and then one of its own.
pub record ArePumpTicks (config : Config) (line : List ℕ) (calls : ℕ) (old new : Shown)
    (before after : Option (List ℕ)) : Type 0 where
  pub pumped : Pumped
  pub last : Shown
  pub middle : Option (List ℕ)
  pub pumps : Pumps (IsNextTick config) config.slices calls pumped old last before middle
  pub same : new.slices ≡ last.slices
  pub shown : IsShown config line (commands.Pump calls) last new middle after

-- what a player does of a command
abbrev pub Ticks : Config → Shown → List ℕ → Command → Option (List ℕ) → Option (List ℕ) → Shown → Type 0
Ticks config old line (commands.Pump calls) before after new =
    ArePumpTicks config line calls old new before after
Ticks config old line command before after new = IsTick config line command old new before after

-- nothing was played yet
abbrev pub shown_first : List PartsView → Shown
shown_first slices = record { slices = slices; named = []; played = 0; values = [] }

-- the signals of these lines and of all cores are written, then these values of them, and the time at which the last
-- ones end
pub record IsWritten (cores slices : ℕ) (named : List LineAddr) (ticks : List ℕ) (time : ℕ)
    (before after : Option (List ℕ)) : Type 0 where
  pub first : Option (List ℕ)
  pub header : Appends before first (text_of_header cores slices named)
  pub last : Option (List ℕ)
  pub told : Appends first last ticks
  pub ended : Appends last after (text_of_time time)

-- The commands are played from these slices on. The signals of the lines that they name come first, then what each
-- command made of them, and the time at which the last one's ends.
pub record HasWaves (config : Config) (commands : List (ℕ × List (List ℕ))) (start : List PartsView)
    (before after : Option (List ℕ)) : Type 0 where
  pub end : Shown
  pub ticks : List ℕ
  pub played : PlaysAll (Ticks config) config commands (shown_first start) end (Some []) (Some ticks)
  pub written : IsWritten config.cores config.slices end.named ticks (next end.played) before after

-- .. on a new machine
pub record IsWavesOf (config : Config) (bound : Bound) (commands : List (ℕ × List (List ℕ)))
    (before after : Option (List ℕ)) : Type 0 where
  pub start : List PartsView
  pub fresh : IsNewMachine config bound start
  pub waves : HasWaves config commands start before after

-- A script's waves. Those of an empty script have no value: nothing is played on the machine that it has then.
abbrev pub IsWaves : List (ℕ × List (List ℕ)) → Option (List ℕ) → Option (List ℕ) → Type 0
IsWaves all before after =
    ((all ≡ []) × IsWritten default_config.cores default_config.slices [] [] 1 before after)
    ⊎ ((config : Config) × (bound : Bound) × (commands : List (ℕ × List (List ℕ)))
    × IsSetUp all config bound commands × IsWavesOf config bound commands before after)

-- the commands are played up to one that can't be, from these slices on
pub record WavesStopAt (config : Config) (commands : List (ℕ × List (List ℕ))) (start : List PartsView)
    (fault : TextFault) : Type 0 where
  pub ticks : Option (List ℕ)
  pub stopped : PlaysUpTo (Ticks config) config commands (shown_first start) (Some []) ticks fault

-- why a script has no waves: as in scripts, or they couldn't be written
abbrev pub IsWavesFault : List (ℕ × List (List ℕ)) → TextFault → Type 0
IsWavesFault all fault =
    IsNotConfigured all fault ⊎ IsOfRun fault
    ⊎ ((config : Config) × (bound : Bound) × (commands : List (ℕ × List (List ℕ))) × (start : List PartsView)
    × IsSetUp all config bound commands × IsNewMachine config bound start × WavesStopAt config commands start fault)
