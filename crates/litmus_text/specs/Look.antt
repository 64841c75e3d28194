-- Commands that only show part of a machine: their names, and what they are about.
use Rattle.std.specs.Prelude.{ℕ, ◌<◌, ◌/◌, List, [], ◌∷◌, Option, Some, None, codes}
use Rattle.address_map.specs.Place.{line_of as line_of_word}
use Rattle.address_map.specs.declared.address.LineAddr.{LineAddr}
use Rattle.address_map.specs.declared.config.Config.{Config}
use Rattle.litmus_text.specs.Form.{Part, num}
use Rattle.litmus_text.specs.declared.look.Look.{Look}
use Rattle.litmus_text.specs.declared.look.Look.TheVariants as looks
use Rattle.litmus_text.specs.declared.look.MachineLook.{MachineLook}
use Rattle.litmus_text.specs.declared.look.MachineLook.TheVariants as machine_looks
use Rattle.litmus_text.specs.declared.look.Subject.{Subject}
use Rattle.litmus_text.specs.declared.look.Subject.TheVariants as subjects

-- the first word of its command
abbrev pub name_of_machine_look : MachineLook → List ℕ
name_of_machine_look machine_looks.Stats = codes "stats"
name_of_machine_look machine_looks.Waiting = codes "waiting"
name_of_machine_look machine_looks.Show = codes "show"

abbrev pub name_of_look : Look → List ℕ
name_of_look (looks.Word word) = codes "word"
name_of_look (looks.State line) = codes "state"
name_of_look (looks.Log slice) = codes "log"
name_of_look (looks.Machine look) = name_of_machine_look look

-- the part that it shows
abbrev pub subject_of : Look → Subject
subject_of (looks.Word word) = subjects.Word word
subject_of (looks.State line) = subjects.Line line
subject_of (looks.Log slice) = subjects.Slice slice
subject_of (looks.Machine look) = subjects.Machine

-- .. as what follows the name
abbrev pub parts_of_subject : Subject → List Part
parts_of_subject (subjects.Word word) = num word.0 ∷ []
parts_of_subject (subjects.Line line) = num line.0 ∷ []
parts_of_subject (subjects.Slice slice) = num slice.0 ∷ []
parts_of_subject subjects.Machine = []

-- the machine has it
abbrev pub HasSubject : Config → Subject → Type 0
HasSubject config (subjects.Word word) = word.0 / 8 < config.lines
HasSubject config (subjects.Line line) = line.0 < config.lines
HasSubject config (subjects.Slice slice) = slice.0 < config.slices
HasSubject config subjects.Machine = Unit {0}

-- the line that it is about, if any
abbrev pub line_of_look : Look → Option LineAddr
line_of_look (looks.Word word) = Some (line_of_word word)
line_of_look (looks.State line) = Some line
line_of_look (looks.Log slice) = None
line_of_look (looks.Machine look) = None
