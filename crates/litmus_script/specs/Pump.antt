-- What a pump does: deliveries in one slice after another, round and round.
use Rattle.std.specs.Prelude.{◌≡◌, ◌⊎◌, ℕ, zero, suc, ◌+◌, ◌*◌, ◌<◌, ◌≤◌, Bool, true, false, List, [], ◌∷◌, length}
use Rattle.std.specs.Prelude.{if◌then◌else◌, Option}
use Rattle.std.specs.List.{list_all, list_any}
use Rattle.slice_core.specs.declared.run.Call.TheVariants as slice_calls
use Rattle.slice_core.specs.declared.run.CallAnswer.TheVariants as call_answers
use Rattle.slice_core_spec.specs.Calls.{PartsView}
use Rattle.slice_queues.specs.declared.channel.Class.TheVariants as classes
use Rattle.litmus_script.specs.Machine.{IsAnswered}
use Rattle.litmus_script.specs.declared.answers.Pumped.{Pumped}
use Rattle.litmus_script.specs.declared.answers.Pumped.TheVariants as pumps
use Rattle.litmus_script.specs.declared.pump.Round.{Round}
use Rattle.litmus_script.specs.declared.pump.Round.TheVariants as rounds
use Rattle.slice_answer.specs.declared.answer.Delivery.TheVariants as deliveries
use Rattle.slice_answer.specs.declared.answer.Delivery.{Delivery}
use Rattle.slice_queues.specs.declared.channel.Pick.{Pick}

-- the slice was asked for a delivery of any class, and gave this answer
abbrev pub IsDelivered : ℕ → Delivery Pick → List PartsView → List PartsView → Type 0
IsDelivered slice answer old new =
    IsAnswered slice (slice_calls.DeliverNext classes.Any) (call_answers.DeliverNext answer) old new

-- How deliveries are reported: what the next delivery of a slice, by its answer, does to the slices of a machine, and
-- the text that it appends.
abbrev pub Telling : Type 1
Telling = List PartsView → ℕ → Delivery Pick → Option (List ℕ) → Option (List ℕ) → List PartsView → Type 0

-- nothing is written
abbrev pub Silently : Telling
Silently old slice answer before after new = IsDelivered slice answer old new × (after ≡ before)

-- From this slice on, a delivery was made in one slice after another, with these answers. Each begins with the machine
-- and the text that the one before it left.
abbrev pub Delivers : {D : Type 0} → (D → ℕ → Delivery Pick → Option (List ℕ) → Option (List ℕ) → D → Type 0) → ℕ
    → List (Delivery Pick) → D → D → Option (List ℕ) → Option (List ℕ) → Type 0
Delivers tells slice [] old new before after = (new ≡ old) × (after ≡ before)
Delivers {D} tells slice (answer ∷ more) old new before after =
    (next : D) × (middle : Option (List ℕ)) × tells old slice answer before middle next
    × Delivers tells (slice + 1) more next new middle after

-- a message was delivered
abbrev pub is_moved : Delivery Pick → Bool
is_moved (deliveries.Moved pick) = true
is_moved answer = false

-- no message waited in the slice
abbrev pub is_nothing : Delivery Pick → Bool
is_nothing deliveries.Nothing = true
is_nothing answer = false

-- each of the first `slices` slices was asked, and gave these answers
pub record IsRound {D : Type 0} (tells : D → ℕ → Delivery Pick → Option (List ℕ) → Option (List ℕ) → D → Type 0)
    (slices : ℕ) (given : List (Delivery Pick)) (old new : D) (before after : Option (List ℕ)) : Type 0 where
  pub whole : length given ≡ slices
  pub made : Delivers tells 0 given old new before after

-- a round over all slices in which a message was delivered
pub record Moves {D : Type 0} (tells : D → ℕ → Delivery Pick → Option (List ℕ) → Option (List ℕ) → D → Type 0)
    (slices : ℕ) (old new : D) (before after : Option (List ℕ)) : Type 0 where
  pub given : List (Delivery Pick)
  pub round : IsRound tells slices given old new before after
  pub moved : list_any is_moved given ≡ true

-- n of them, one after another
abbrev pub MovesTimes : {D : Type 0} → (D → ℕ → Delivery Pick → Option (List ℕ) → Option (List ℕ) → D → Type 0) → ℕ → ℕ
    → D → D → Option (List ℕ) → Option (List ℕ) → Type 0
MovesTimes tells slices zero old new before after = (new ≡ old) × (after ≡ before)
MovesTimes {D} tells slices (suc n) old new before after =
    (mid : D) × (middle : Option (List ℕ)) × MovesTimes tells slices n old mid before middle
    × Moves tells slices mid new middle after

-- A round over all slices that delivered nothing ended it. The result says whether a message waited in some slice.
pub record EndsStill (slices calls before : ℕ) (given : List (Delivery Pick)) (pumped : Pumped) : Type 0 where
  pub whole : length given ≡ slices
  pub within : (before + 1) * slices ≤ calls
  pub still : list_any is_moved given ≡ false
  pub said : pumped ≡ (if list_all is_nothing given then pumps.Empty else pumps.Left)

-- The calls that remained after whole rounds ended it, too few for one more.
pub record EndsOut (slices calls before : ℕ) (given : List (Delivery Pick)) (pumped : Pumped) : Type 0 where
  pub all : before * slices + length given ≡ calls
  pub few : length given < slices
  pub said : pumped ≡ pumps.Left

-- A pump of at most `calls` calls: rounds over all slices, each of which delivers a message, and then the calls that
-- end it. The result is `left`, unless the last round found no message in any slice.
pub record Pumps {D : Type 0} (tells : D → ℕ → Delivery Pick → Option (List ℕ) → Option (List ℕ) → D → Type 0)
    (slices calls : ℕ) (pumped : Pumped) (old new : D) (before after : Option (List ℕ)) : Type 0 where
  pub turns : ℕ
  pub mid : D
  pub middle : Option (List ℕ)
  pub given : List (Delivery Pick)
  pub moves : MovesTimes tells slices turns old mid before middle
  pub made : Delivers tells 0 given mid new middle after
  pub ends : EndsStill slices calls turns given pumped ⊎ EndsOut slices calls turns given pumped

-- ---- notions of the pump alone

-- the result of a round
abbrev pub round_of : List (Delivery Pick) → Round
round_of given =
    if list_any is_moved given then rounds.Moved else if list_all is_nothing given then rounds.Empty else rounds.Stuck

-- .. with one more answer
abbrev pub round_after : Round → Delivery Pick → Round
round_after round (deliveries.Moved pick) = rounds.Moved
round_after round deliveries.Nothing = round
round_after rounds.Moved answer = rounds.Moved
round_after round answer = rounds.Stuck

-- a round over the first `slices` slices, and its result
pub record ComesTo {D : Type 0} (tells : D → ℕ → Delivery Pick → Option (List ℕ) → Option (List ℕ) → D → Type 0)
    (slices : ℕ) (round : Round) (old new : D) (before after : Option (List ℕ)) : Type 0 where
  pub given : List (Delivery Pick)
  pub made : IsRound tells slices given old new before after
  pub came : round ≡ round_of given

-- All of `count` rounds delivered a message, or the last round made was one that delivered none.
abbrev pub AreRounds : {D : Type 0} → (D → ℕ → Delivery Pick → Option (List ℕ) → Option (List ℕ) → D → Type 0) → ℕ → ℕ
    → Round
    → D → D → Option (List ℕ) → Option (List ℕ) → Type 0
AreRounds tells slices count rounds.Moved old new before after = MovesTimes tells slices count old new before after
AreRounds {D} tells slices count last old new before after =
    (turns : ℕ) × (mid : D) × (middle : Option (List ℕ)) × (turns < count)
    × MovesTimes tells slices turns old mid before middle × ComesTo tells slices last mid new middle after
