-- The lines that a script's commands name.
use Rattle.std.specs.Prelude.{◌≡◌, ◌⊎◌, List, [], ◌∷◌, ◌++◌, Contains, Option, Some, None}
use Rattle.address_map.specs.Place.{line_of as line_of_word}
use Rattle.address_map.specs.declared.address.LineAddr.{LineAddr}
use Rattle.address_map.specs.declared.config.Config.{Config}
use Rattle.litmus_text.specs.Command.{HasLine}
use Rattle.litmus_text.specs.Look.{line_of_look}
use Rattle.litmus_text.specs.declared.command.Command.{Command}
use Rattle.litmus_text.specs.declared.command.Command.TheVariants as commands
use Rattle.slice_queues.specs.Pick.{line_of}

-- the line that a command is about, if it is about one
abbrev pub line_named : Command → Option LineAddr
line_named (commands.Issue core request) = Some (line_of_word request.word)
line_named (commands.Evict core line) = Some line
line_named (commands.Deliver pick) = Some (line_of pick)
line_named (commands.Look look) = line_of_look look
line_named command = None

-- what was named so far: a line of the memory that wasn't named yet goes last
abbrev pub Names : Config → Option LineAddr → List LineAddr → List LineAddr → Type 0
Names config None old new = new ≡ old
Names config (Some line) old new =
    ((HasLine config line × ¬ Contains old line) × (new ≡ old ++ (line ∷ [])))
    ⊎ ((¬ (HasLine config line × ¬ Contains old line)) × (new ≡ old))
