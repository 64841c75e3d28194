-- A message waits at a pick exactly where one is in front of it.
use Rattle.std.proofs.Common.{◌≡◌, ℕ, ◌<◌, ◌/◌, ◌%◌, ◌==◌, ◌&&◌, Bool, true, false, if◌then◌else◌, nat_lt, is_some}
use Rattle.std.proofs.Common.{slice_get, slice_index_or, List, [], ◌∷◌, length, Some, None, suc, arith, refl, ap}
use Rattle.std.proofs.Common.{lt-ltb, ◌∙◌}
use Rattle.std.proofs.lemmas.Bool.{ltb-false}
use Rattle.std.proofs.lemmas.List.{get_or_past}
use Rattle.address_map.specs.Locator.{local_at}
use Rattle.slice_core.specs.Facts.{HasEachFrontOnce, front_at}
use Rattle.slice_core_spec.specs.View.{View}
use Rattle.slice_queues.proofs.SliceLaws.{IsEmptyLine-empty_line}
use Rattle.slice_queues.specs.Line.{LineChannels, empty_line, messages_at}
use Rattle.slice_queues.specs.Waiting.{HasEachPickOnce, is_from_core, is_waiting_in, placed_by}
use Rattle.slice_queues.specs.Pick.{channel_of, line_of}
use Rattle.slice_queues.specs.declared.channel.Channel.{Channel}
use Rattle.slice_queues.specs.declared.channel.Pick.{Pick}
use Rattle.slice_queues.specs.declared.message.Message.{Message}

-- a list has a first item exactly where it has some
has-first : (xs : List Message) → nat_lt 0 (length xs) ≡ is_some (slice_get xs 0)
has-first [] = refl
has-first (x ∷ xs) = let some : 0 < suc (length xs) = omega arith in lt-ltb 0 (suc (length xs)) some

module _ (v : View) (size : length v.channels ≡ v.lines.lines) where
  -- a message waits in a channel of the line at a place exactly where one is in front, be the line the slice's or not
  by-place : (channel : Channel) (place : ℕ) (here there : Bool) → nat_lt place v.lines.lines ≡ there
      → nat_lt 0
      (length (if here then messages_at (slice_index_or v.channels place (empty_line 0)) channel else []))
      ≡ is_some (front_at v (if here && there then Some (record { 0 = place }) else None) channel)
  by-place channel place false there is = refl
  by-place channel place true true is = has-first _
  by-place channel place true false is =
      ap (λ (line : LineChannels). nat_lt 0 (length (messages_at line channel)))
      (get_or_past v.channels place (empty_line 0) (rw size (ltb-false place v.lines.lines is)))
      ∙ ap (λ (messages : List Message). nat_lt 0 (length messages)) (IsEmptyLine-empty_line 0 channel)

  waits-in_front : (pick : Pick) → is_waiting_in (placed_by v.lines v.channels) pick
      ≡ is_some (front_at v (local_at v.lines (line_of pick).0) (channel_of pick))
  waits-in_front pick =
      by-place (channel_of pick) ((line_of pick).0 / v.lines.slices)
      ((line_of pick).0 % v.lines.slices == v.lines.slice) _ refl

  -- So a list with each pick once at which a message waits has each pick once with a message in front.
  pub fronts-once : (picks : List Pick) → HasEachPickOnce (placed_by v.lines v.channels) picks
      → HasEachFrontOnce v picks
  fronts-once picks once pick =
      once pick
      ∙ ap (λ (waits : Bool). if is_from_core (channel_of pick) && waits then 1 else 0) (waits-in_front pick)
