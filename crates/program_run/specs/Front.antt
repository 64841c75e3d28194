-- The front of a slice's ring: lines in which nothing waits, and the first after them.
use Rattle.std.specs.Prelude.{◌≡◌, ◌≢◌, ℕ, ◌<◌, ◌≤◌, List, [], ◌∷◌, length, slice_get, slice_index_or, Option, None, Some}
use Rattle.address_map.specs.Locator.{line_at, local_at}
use Rattle.address_map.specs.declared.address.CoreId.{CoreId}
use Rattle.address_map.specs.declared.address.LineAddr.{LineAddr}
use Rattle.address_map.specs.declared.address.Local.{Local}
use Rattle.slice_core_spec.specs.Calls.{PartsView, next_pick}
use Rattle.slice_core_spec.specs.Parts.{ring_lines}
use Rattle.slice_core_spec.specs.View.{View, channels_at}
use Rattle.slice_core_exec.specs.CoreLines.{last_written_back}
use Rattle.litmus_script.specs.declared.answers.Issued.{Issued}
use Rattle.litmus_script.specs.declared.answers.Issued.TheVariants as issued_kinds
use Rattle.slice_queues.specs.Line.{messages_at}
use Rattle.slice_queues.specs.Waiting.{line_waiting}
use Rattle.slice_queues.specs.Pick.{pick_at}
use Rattle.slice_queues.specs.declared.channel.Channel.{Channel}
use Rattle.slice_queues.specs.declared.channel.Class.TheVariants as classes
use Rattle.slice_queues.specs.declared.channel.Pick.{Pick}
use Rattle.program_run.specs.Run.{delivery_of}
use Rattle.program_run.specs.declared.front.Front.{Front}
use Rattle.program_run.specs.declared.front.Front.TheVariants as fronts
use Rattle.program_run.specs.declared.moves.Move.{Move}
use Rattle.program_run.specs.declared.moves.Move.TheVariants as moves

-- nothing waits in the channels of the line
pub record IsIdle (v : View) (local : Local) : Type 0 where
  pub waiting : line_waiting (channels_at v local) ≡ []
  pub empty : (channel : Channel) → messages_at (channels_at v local) channel ≡ []

-- nothing waits in the first `count` lines of the ring
pub record HasIdleFront (count : ℕ) (p : PartsView) : Type 0 where
  pub within : count ≤ length p.ring
  pub idle : (place local : ℕ) → place < count → slice_get p.ring place ≡ Some local
      → IsIdle p.view (record { 0 = local })

-- .. of each slice
abbrev pub AreIdle : List ℕ → List PartsView → Type 0
AreIdle counts slices =
    (slice : ℕ) (p : PartsView) → slice_get slices slice ≡ Some p → HasIdleFront (slice_index_or counts slice 0) p

-- a message waits first in the channel of the line at this place
pub record WaitsFirst (v : View) (line : LineAddr) (local : Local) (pick : Pick) : Type 0 where
  pub there : local_at v.lines line.0 ≡ Some local
  pub channel : Channel
  pub rest : List Channel
  pub waiting : line_waiting (channels_at v local) ≡ channel ∷ rest
  pub is : pick ≡ pick_at line channel

-- what a look at the line at this place found
abbrev pub IsLineFront : View → LineAddr → Option Local → Front → Type 0
IsLineFront v line place fronts.Unknown = Unit {0}
IsLineFront v line place fronts.Idle = (local : Local) × (place ≡ Some local) × IsIdle v local
IsLineFront v line place (fronts.Waits pick) = (local : Local) × WaitsFirst v line local pick

-- what is in the ring after the first `count` lines
abbrev pub IsFront : PartsView → ℕ → Front → Type 0
IsFront p count fronts.Unknown = Unit {0}
IsFront p count fronts.Idle = count ≡ length p.ring
IsFront p count (fronts.Waits pick) =
    (local : Local) × (slice_get p.ring count ≡ Some local.0) × WaitsFirst p.view (line_at p.view.lines local) local pick

-- the delivery, if there is one
abbrev pub delivery_if : Option Pick → List Move
delivery_if None = []
delivery_if (Some pick) = moves.Deliver pick ∷ []

-- this is the next delivery of the slice, where the first message is at the pick
abbrev pub IsNextFrom : PartsView → Pick → Option Pick → Type 0
IsNextFrom p pick next =
    (count : ℕ) → HasIdleFront count p → IsFront p count (fronts.Waits pick)
    → delivery_of (next_pick p classes.Any) ≡ delivery_if next

-- none of the first `count` lines of the ring is `line` or `left`
abbrev pub IsApart : PartsView → ℕ → LineAddr → Option LineAddr → Type 0
IsApart p count line left =
    (place : ℕ) → place < count
    → (slice_get (ring_lines p) place ≢ Some line) × (slice_get (ring_lines p) place ≢ left)

-- fewer lines, and none of them is this one or the one that was evicted last
abbrev pub IsLess : PartsView → CoreId → LineAddr → ℕ → ℕ → Type 0
IsLess p core line old new = (new ≤ old) × IsApart p new line (last_written_back p.view core)

-- in one slice fewer lines need no look
abbrev pub LooksBehind : List PartsView → ℕ → CoreId → LineAddr → List ℕ → List ℕ → Type 0
LooksBehind slices slice core line old new =
    (p : PartsView) → slice_get slices slice ≡ Some p
    → IsLess p core line (slice_index_or old slice 0) (slice_index_or new slice 0)
    × ((other : ℕ) → other ≢ slice → slice_index_or new other 0 ≡ slice_index_or old other 0)

-- an access that waits has sent something to none of the lines that need no look
abbrev pub LooksAgain : List PartsView → ℕ → CoreId → LineAddr → Issued → List ℕ → List ℕ → Type 0
LooksAgain slices slice core line (issued_kinds.Pending seq) old new = LooksBehind slices slice core line old new
LooksAgain slices slice core line issued old new = new ≡ old
