-- A run whose answers are next to the commands.
use Rattle.std.specs.Prelude.{ℕ, Bool, true, false, List, [], Some}
use Rattle.std.specs.Io.KnownBytes.{Appends}
use Rattle.std.specs.Str.Lines.{lines}
use Rattle.litmus_script.specs.Script.{Plainly, Playing}
use Rattle.script_explained.specs.Rows.{text_beside}
use Rattle.script_explained.specs.Explains.{Explainingly}

-- what is reported of a command: its answer, alone or with what happened
abbrev pub Told : Bool → Playing
Told false = Plainly
Told true = Explainingly

-- The command is played, and its line is written with the lines next to it that this style would write of it.
abbrev pub IsBeside : Playing → Playing
IsBeside plays config old line command before after new =
    (answer : List ℕ) × plays config old line command (Some []) (Some answer) new
    × Appends before after (text_beside line (lines answer))
