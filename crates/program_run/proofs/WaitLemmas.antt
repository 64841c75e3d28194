-- A program that may take no step.
use Rattle.std.proofs.Common.{◌≡◌, ℕ, nat_lt, not, Bool, true, false, List, Option, None, Some, if◌then◌else◌, refl}
use Rattle.std.specs.Prelude.{slice_get}
use Rattle.address_map.specs.declared.address.CoreId.{CoreId}
use Rattle.address_map.specs.declared.config.Config.{Config}
use Rattle.program_text.specs.declared.programs.CoreProgram.{CoreProgram}
use Rattle.program_text.specs.declared.programs.Programs.{Programs}
use Rattle.program_text.specs.declared.programs.Step.{Step}
use Rattle.slice_core_spec.specs.Calls.{PartsView}
use Rattle.program_run.specs.Run.{may_ask, may_step, may_step_at, next_by, turn_by}
use Rattle.program_run.specs.declared.moves.Place.{Place}

-- either of two is none
both_are_none : {X : Type 0} (b : Bool) (other : Option X) → other ≡ None → (if b then None else other) ≡ None
both_are_none true other none = refl
both_are_none false other none = none

-- it doesn't go on by this step, nor by any
has_no_turn : (most : Option ℕ) (core : CoreId) (place : Place) (step : Option Step)
    → ((step : Step) → may_step most place step ≡ false) → turn_by most core place step ≡ None
has_no_turn most core place None waits = refl
has_no_turn most core place (Some step) waits = rw (waits step) refl

has_no_next : (cores : ℕ) (most : Option ℕ) (program : Option CoreProgram) (place : Option Place)
    → ((step : Step) → may_step_at most place step ≡ false) → next_by cores most program place ≡ None
has_no_next cores most None place waits = refl
has_no_next cores most (Some program) None waits = refl
has_no_next cores most (Some program) (Some place) waits =
    both_are_none (not (nat_lt program.core.0 cores)) _
    (has_no_turn most program.core place (slice_get program.steps.items place.asked) waits)

-- so it asks for nothing
pub a_waiting_program_asks_nothing : (config : Config) (programs : Programs) (slices : List PartsView)
    (places : List Place) (number : ℕ)
    → ((step : Step) → may_step_at programs.limits.outstanding (slice_get places number) step ≡ false)
    → may_ask config programs slices places number ≡ false
a_waiting_program_asks_nothing config programs slices places number waits =
    rw (has_no_next config.cores programs.limits.outstanding (slice_get programs.cores.items number)
    (slice_get places number) waits) refl
