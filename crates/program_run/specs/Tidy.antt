-- How the rings of a machine's slices are kept short.
use Rattle.std.specs.Prelude.{◌≡◌, ℕ, ◌%◌, ◌==◌, Bool, true, false, if◌then◌else◌, is_some, List, [], ◌∷◌, slice_get}
use Rattle.std.specs.Prelude.{Option, None, Some}
use Rattle.std.specs.List.{range_with_len}
use Rattle.litmus_script.specs.Machine.{IsMade}
use Rattle.slice_answer.specs.declared.answer.Delivery.{Delivery}
use Rattle.slice_answer.specs.declared.answer.Delivery.TheVariants as deliveries
use Rattle.slice_core.specs.declared.run.Call.TheVariants as slice_calls
use Rattle.slice_core_spec.specs.Calls.{PartsView, next_pick}
use Rattle.slice_core_spec.specs.Parts.{ring_lines}
use Rattle.slice_queues.specs.declared.channel.Class.{Class}
use Rattle.slice_queues.specs.declared.channel.Class.TheVariants as classes
use Rattle.slice_queues.specs.declared.channel.Pick.{Pick}

abbrev pub is_moved : Delivery Pick → Bool
is_moved (deliveries.Moved pick) = true
is_moved next = false

-- a class of which the slice has no message that can be moved
abbrev pub idle_class : PartsView → Option Class
idle_class state =
    if is_moved (next_pick state classes.Home)
    then (if is_moved (next_pick state classes.Ack) then None else Some classes.Ack)
    else Some classes.Home

-- .. where its ring has more than 32 lines
abbrev pub tidied_by : Option PartsView → Option Class
tidied_by None = None
tidied_by (Some state) = if is_some (slice_get (ring_lines state) 32) then idle_class state else None

-- A slice is asked for the next delivery of such a class. There is none, and all lines of its ring are looked at for it:
-- those without messages are removed.
abbrev pub TidiesSlice : ℕ → Option Class → List PartsView → List PartsView → Type 0
TidiesSlice slice None old new = new ≡ old
TidiesSlice slice (Some class) old new = IsMade slice (slice_calls.DeliverNext class) old new

-- these slices, one after another
abbrev pub TidiesAll : List ℕ → List PartsView → List PartsView → Type 0
TidiesAll [] old new = new ≡ old
TidiesAll (slice ∷ more) old new =
    (next : List PartsView) × TidiesSlice slice (tidied_by (slice_get old slice)) old next × TidiesAll more next new

-- all slices after every 32nd move, and none after another
abbrev pub TidiesWhere : Bool → ℕ → List PartsView → List PartsView → Type 0
TidiesWhere false slices old new = new ≡ old
TidiesWhere true slices old new = TidiesAll (range_with_len 0 slices) old new

abbrev pub Tidies : ℕ → ℕ → List PartsView → List PartsView → Type 0
Tidies slices made = TidiesWhere (made % 32 == 31) slices
