-- What was decided of cores' accesses, from one call of the machine to the next.
use Rattle.std.specs.Prelude.{◌≡◌, ◌≢◌, ℕ, List, Option, Some, slice_get}
use Rattle.address_map.specs.declared.address.CoreId.{CoreId}
use Rattle.address_map.specs.declared.config.Config.{Config}
use Rattle.address_map.specs.declared.request.Request.{Request}
use Rattle.slice_core_spec.specs.Calls.{PartsView}
use Rattle.program_run.specs.Front.{AreIdle}
use Rattle.program_run.specs.Run.{decision_on}
use Rattle.program_run.specs.declared.kept.Decided.{Decided}
use Rattle.program_run.specs.declared.kept.Kept.{Kept}

-- what was decided of each core's access would be decided of it now
abbrev pub AreDecided : Config → List PartsView → List (Option Decided) → Type 0
AreDecided config slices kept =
    (core : ℕ) (decided : Decided) → slice_get kept core ≡ Some (Some decided)
    → decision_on config slices (record { 0 = core }) decided.request ≡ Some decided.decision

-- what is decided of the accesses of cores but this one is as it was
abbrev pub KeepsOthers : Config → CoreId → List PartsView → List PartsView → Type 0
KeepsOthers config core old new =
    (other : CoreId) (request : Request) → other.0 ≢ core.0
    → decision_on config new other request ≡ decision_on config old other request

-- what is kept holds for the machine
pub record Knows (config : Config) (slices : List PartsView) (kept : Kept) : Type 0 where
  pub decided : AreDecided config slices kept.decided.items
  pub idle : AreIdle kept.idle.items slices
