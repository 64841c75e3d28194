-- The lowest tag that a core has free.
use Rattle.std.specs.Prelude.{◌≡◌, ℕ, ◌<◌, Bool, true, false, Option, Some, None}
use Rattle.address_map.specs.declared.address.CoreId.{CoreId}
use Rattle.address_map.specs.declared.address.WordAddr.{WordAddr}
use Rattle.address_map.specs.declared.request.Op.{Op}
use Rattle.slice_answer.specs.declared.answer.Refused.TheVariants as refusals
use Rattle.slice_core_spec.specs.Decision.{decision_of}
use Rattle.slice_core_spec.specs.View.{View}
use Rattle.slice_core_spec.specs.declared.decision.Decision.{Decision}
use Rattle.slice_core_spec.specs.declared.decision.Decision.TheVariants as decisions

-- the request is refused since its tag isn't free
abbrev pub is_busy : Decision → Bool
is_busy (decisions.Refuse refusals.TagBusy) = true
is_busy decision = false

-- .. of an access of a core under this tag
abbrev pub busy_at : View → CoreId → Op → WordAddr → ℕ → Bool
busy_at v core op word tag = is_busy (decision_of v core (record { op = op; word = word; tag = tag }))

-- it is refused so under each lower tag of the 64 and not under this one, or under all
abbrev pub IsLowestFree : View → CoreId → Op → WordAddr → Option ℕ → Type 0
IsLowestFree v core op word (Some tag) =
    (busy_at v core op word tag ≡ false) × ((lower : ℕ) → lower < tag → busy_at v core op word lower ≡ true)
IsLowestFree v core op word None = (tag : ℕ) → tag < 64 → busy_at v core op word tag ≡ true
