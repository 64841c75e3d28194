-- A case of the tables: who, in which state, at which event.
use Rattle.std.specs.Prelude.{ℕ, List, ◌++◌, codes, decimal}
use Rattle.cache_table.specs.Name.{name_of as name_of_copy}
use Rattle.directory_table.specs.Name.{name_of as name_of_entry}
use Rattle.slice_text.specs.Message.{text_of_message}
use Rattle.slice_text.specs.declared.step.case.Case.{Case}
use Rattle.slice_text.specs.declared.step.case.Event.{Event}
use Rattle.slice_text.specs.declared.step.case.Event.TheVariants as events
use Rattle.slice_text.specs.declared.step.case.Who.{Who}
use Rattle.slice_text.specs.declared.step.case.Who.TheVariants as whos

-- the directory of a slice, or a core
abbrev pub text_of_who : Who → List ℕ
text_of_who (whos.Directory slice state) = codes "dir " ++ decimal slice
text_of_who (whos.Core core state) = codes "core " ++ decimal core.0

-- .. and the state of its entry or copy
abbrev pub text_of_state : Who → List ℕ
text_of_state (whos.Directory slice state) = name_of_entry state
text_of_state (whos.Core core state) = name_of_copy state

-- a message under its name, or what a core does, under the name of its column
abbrev pub text_of_event : Event → List ℕ
text_of_event (events.Message message) = text_of_message message
text_of_event events.Load = codes "load"
text_of_event events.Write = codes "write"
text_of_event events.Eviction = codes "eviction"

abbrev pub text_of_case : Case → List ℕ
text_of_case case =
    text_of_who case.who ++ codes " (" ++ text_of_state case.who ++ codes ", " ++ text_of_event case.event ++ codes ")"
