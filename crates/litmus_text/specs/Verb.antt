-- The first words of a script's commands.
use Rattle.std.specs.Prelude.{ℕ, List, codes}
use Rattle.litmus_text.specs.Look.{name_of_machine_look}
use Rattle.litmus_text.specs.declared.parse.Verb.{Verb}
use Rattle.litmus_text.specs.declared.parse.Verb.TheVariants as verbs

abbrev pub name_of_verb : Verb → List ℕ
name_of_verb verbs.Issue = codes "issue"
name_of_verb verbs.Evict = codes "evict"
name_of_verb verbs.Deliver = codes "deliver"
name_of_verb verbs.Hand = codes "hand"
name_of_verb verbs.Word = codes "word"
name_of_verb verbs.State = codes "state"
name_of_verb verbs.Log = codes "log"
name_of_verb (verbs.Machine look) = name_of_machine_look look
name_of_verb verbs.Pump = codes "pump"
