-- What is said of a reply that is handed out: the access that it is for.
use Rattle.std.specs.Prelude.{List, ℕ, ◌++◌, codes, decimal, Option, Some, None}
use Rattle.address_map.specs.declared.address.CoreId.{CoreId}
use Rattle.slice_log.specs.declared.entry.Numbered.{Numbered}
use Rattle.slice_text.specs.Performed.{text_of_performed}

abbrev pub told_of_hand : CoreId → Option Numbered → List ℕ
told_of_hand core None = codes "core " ++ decimal core.0 ++ codes ": no reply waits"
told_of_hand core (Some given) = text_of_performed given.entry
