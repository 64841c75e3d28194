-- The effect of what is to be delivered next.
use Rattle.std.specs.Prelude.{◌≡◌, ◌<◌, Some}
use Rattle.address_map.specs.Locator.{Lines, line_at, local_at}
use Rattle.slice_answer.specs.declared.answer.Delivered.TheVariants as delivered
use Rattle.slice_core_spec.specs.Calls.{AfterPlan, PartsView}
use Rattle.slice_core_spec.specs.Plan.{plan_of}
use Rattle.address_map.specs.declared.address.Local.{Local}
use Rattle.slice_answer.specs.declared.answer.Delivery.TheVariants as deliveries
use Rattle.slice_answer.specs.declared.answer.Delivery.{Delivery}
use Rattle.slice_queues.specs.declared.channel.Channel.{Channel}

-- where a message could be moved it was delivered, and else nothing has changed
abbrev pub IsMade : PartsView → Delivery (Local × Channel) → PartsView → Type 0
IsMade old (deliveries.Moved at) new =
    AfterPlan (plan_of old.view at.0 at.1) old at.0 at.1 delivered.Moved new
IsMade old _ new = new ≡ old

-- where a message can be moved, its line is one of the slice's
abbrev pub IsOfSlice : Lines → Delivery (Local × Channel) → Type 0
IsOfSlice lines (deliveries.Moved at) = at.0.0 < lines.lines
IsOfSlice lines _ = Unit {0}

-- .. at the place that its number says
abbrev pub IsLocated : Lines → Delivery (Local × Channel) → Type 0
IsLocated lines (deliveries.Moved at) = local_at lines (line_at lines at.0).0 ≡ Some at.0
IsLocated lines _ = Unit {0}
