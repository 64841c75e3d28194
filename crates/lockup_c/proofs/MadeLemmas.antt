-- A handle is given a machine.
use Rattle.std.proofs.Common.{◌≡◌}
use Rattle.std.specs.Prelude.{ℕ, Bool, List, None, Option, Some}
use Rattle.address_map.specs.declared.config.PolicyKind.{PolicyKind}
use Rattle.mshr_file.specs.declared.kind.MissKind.{MissKind}
use Rattle.lockup_c.specs.Made.{Makes, MakesBy, kinds_named, settings_with}
use Rattle.lockup_c.specs.declared.structs.Config.{Config as Numbers}
use Rattle.lockup_c.specs.declared.structs.Initial.{Initial}
use Rattle.lockup_c.specs.declared.held.Held.{Held}

-- one that had nothing is given what the numbers name
pub made : (numbers : Numbers) (initial : List Initial) (counters : List ℕ) (kinds : PolicyKind × MissKind × Bool)
    (code : ℕ) (old new : Option Held) → old ≡ None → kinds_named numbers ≡ Some kinds
    → MakesBy code (settings_with numbers initial counters kinds.0 kinds.1 kinds.2) new
    → Makes numbers initial counters code old new
made numbers initial counters kinds code old new none is by = rw none (rw is by)
