-- Next deliveries serve the lines in turn: a line with a message that can be moved comes nearer to the front of the
-- ring with each that takes from another line.
use Rattle.std.specs.Prelude.{◌≡◌, ℕ, ◌<◌, ◌⊎◌, List, [], ◌∷◌, Some, slice_get}
use Rattle.address_map.specs.Locator.{Lines, line_at}
use Rattle.address_map.specs.declared.address.Local.{Local}
use Rattle.slice_core_spec.specs.Calls.{AfterDeliverNext, IsMove, PartsView}
use Rattle.slice_core_spec.specs.Plan.{plan_of}
use Rattle.slice_core_spec.specs.Ring.{waiting_in}
use Rattle.slice_core_spec.specs.View.{View}
use Rattle.slice_queues.specs.Pick.{line_of}
use Rattle.slice_queues.specs.declared.channel.Channel.{Channel}
use Rattle.slice_queues.specs.declared.channel.Class.{Class}
use Rattle.slice_answer.specs.declared.answer.Delivery.TheVariants as deliveries
use Rattle.slice_answer.specs.declared.answer.Delivery.{Delivery}
use Rattle.slice_queues.specs.declared.channel.Pick.{Pick}

-- of the messages of the class that wait in front of the line's channels one can be moved
abbrev pub CanMove : View → Class → Local → Type 0
CanMove v class local =
    (place : ℕ) × (channel : Channel) × (slice_get (waiting_in v class local) place ≡ Some channel)
    × IsMove (plan_of v local channel)

-- the line is at this place of the ring, the front at 0
abbrev pub StandsAt : PartsView → Local → ℕ → Type 0
StandsAt p local place = slice_get p.ring place ≡ Some local.0

-- the message that was taken is one of this line
abbrev pub TakesFrom : Lines → Local → Delivery Pick → Type 0
TakesFrom lines local (deliveries.Moved pick) = line_of pick ≡ line_at lines local
TakesFrom lines local _ = ⊥

-- the line is nearer to the front than this
abbrev pub StandsBefore : PartsView → Local → ℕ → Type 0
StandsBefore p local place = (nearer : ℕ) × (nearer < place) × StandsAt p local nearer

-- What a next delivery owes each line with a message of the class that can be moved.
pub record ServesInTurn (old : PartsView) (class : Class) (answer : Delivery Pick) (new : PartsView) : Type 0 where
  -- it is in the ring
  pub stands : (local : Local) → local.0 < old.view.lines.lines → CanMove old.view class local
      → (place : ℕ) × StandsAt old local place
  -- and is taken from, or comes nearer to the front
  pub nearer : (local : Local) (place : ℕ) → StandsAt old local place → CanMove old.view class local
      → TakesFrom old.view.lines local answer ⊎ StandsBefore new local place

-- Next deliveries of the class, made one after another, pass over the line: before each some message of its can be
-- moved, and none takes from it.
abbrev pub PassOver : Local → Class → PartsView → List (Delivery Pick) → PartsView → Type 0
PassOver local class old [] new = new ≡ old
PassOver local class old (answer ∷ answers) new =
    CanMove old.view class local × (TakesFrom old.view.lines local answer → ⊥)
    × (next : PartsView) × AfterDeliverNext old class answer next × PassOver local class next answers new
