-- The moves that may come next in a walk, and what each does.
use Rattle.std.specs.Prelude.{◌≡◌, ℕ, ◌+◌, ◌==◌, ◌%◌, Bool, true, false, not, List, [], ◌++◌, length, map, filter, drop}
use Rattle.std.specs.Prelude.{filter_map, position, slice_get, slice_set, swap_remove, Option, Some, None, is_some}
use Rattle.std.specs.List.{flat_map, list_all, range_with_len}
use Rattle.std.specs.Option.{option_map, option_map_or}
use Rattle.address_map.specs.Locator.{local_at}
use Rattle.address_map.specs.Place.{line_of as line_of_word}
use Rattle.address_map.specs.declared.address.LineAddr.{LineAddr}
use Rattle.address_map.specs.declared.address.Local.{Local}
use Rattle.address_map.specs.declared.address.WordAddr.{WordAddr}
use Rattle.address_map.specs.declared.config.Config.{Config}
use Rattle.address_map.specs.declared.request.Op.{Op}
use Rattle.litmus_script.specs.Issued.{IsIssued}
use Rattle.litmus_script.specs.Machine.{IsAnswered, log_at}
use Rattle.litmus_script.specs.declared.answers.Issued.{Issued}
use Rattle.litmus_script.specs.declared.answers.Issued.TheVariants as issued_kinds
use Rattle.litmus_test.specs.declared.test.Action.{Action}
use Rattle.litmus_test.specs.declared.test.Action.TheVariants as actions
use Rattle.litmus_test.specs.declared.test.Thread.{Thread}
use Rattle.litmus_text.specs.declared.command.Command.TheVariants as commands
use Rattle.litmus_walk.specs.Done.{is_done}
use Rattle.litmus_walk.specs.Walk.{Makes, WalkView}
use Rattle.litmus_walk.specs.declared.moves.Move.{Move}
use Rattle.litmus_walk.specs.declared.moves.Move.TheVariants as moves
use Rattle.litmus_walk.specs.declared.place.Place.{Place}
use Rattle.litmus_walk.specs.declared.place.StepPlace.{StepPlace}
use Rattle.litmus_walk.specs.declared.walker.Reply.{Reply}
use Rattle.slice_core.specs.declared.run.Call.TheVariants as slice_calls
use Rattle.slice_core.specs.declared.run.CallAnswer.TheVariants as call_answers
use Rattle.slice_log.specs.declared.entry.Entry.{Entry}
use Rattle.slice_core_spec.specs.Calls.{PartsView}
use Rattle.slice_core_spec.specs.View.{View, channels_at}
use Rattle.slice_log.specs.declared.entry.Numbered.{Numbered}
use Rattle.slice_queues.specs.Waiting.{line_waiting}
use Rattle.slice_queues.specs.Pick.{line_of, pick_at}
use Rattle.slice_queues.specs.declared.channel.Channel.{Channel}
use Rattle.slice_queues.specs.declared.channel.Pick.{Pick}

-- a walk in progress: the machine with the calls that were made to it, where each thread is, and the waiting replies
pub record WalkState : Type 0 where
  pub walk : WalkView
  pub places : List Place
  pub replies : List Reply

abbrev pub state_of : WalkView → List Place → List Reply → WalkState
state_of walk places replies = record { walk = walk; places = places; replies = replies }

-- ---- what may come next

-- the lowest tag under which a thread at this place awaits no reply
abbrev pub free_tag : Place → Option ℕ
free_tag place = position not place.waits

-- no reply is awaited
abbrev pub is_settled : Place → Bool
is_settled place = list_all not place.waits

-- The next step may be made: there is one, an access has a free tag, and a thread that settles awaits no reply.
abbrev pub can_step : Place → Option Action → Bool
can_step place (Some (actions.Access word op)) = is_some (free_tag place)
can_step place (Some actions.Settle) = is_settled place
can_step place (Some (actions.Evict line)) = true
can_step place None = false

-- .. of a thread at this place
abbrev pub can_go : Option Thread → Option Place → Bool
can_go (Some thread) (Some place) = can_step place (slice_get thread.steps.items place.step)
can_go thread place = false

-- .. of the thread of this number
abbrev pub may_step : List Thread → List Place → ℕ → Bool
may_step threads places number = can_go (slice_get threads number) (slice_get places number)

-- the steps that may be made, in the order of the threads
abbrev pub steps_in : List Thread → List Place → List Move
steps_in threads places = map moves.Step (filter (may_step threads places) (range_with_len 0 (length threads)))

-- the channels of a line of the slice in which a message waits
abbrev pub waiting_in : View → Option Local → List Channel
waiting_in v None = []
waiting_in v (Some local) = line_waiting (channels_at v local)

-- .. of the machine
abbrev pub waiting_at : Config → List PartsView → LineAddr → List Channel
waiting_at config slices line =
    option_map_or (λ state. waiting_in state.view (local_at state.view.lines line.0))
    (slice_get slices (line.0 % config.slices)) []

-- the deliveries of the line's messages
abbrev pub deliveries_at : WalkView → LineAddr → List Move
deliveries_at walk line =
    map (λ channel. moves.Deliver (pick_at line channel)) (waiting_at walk.config walk.slices line)

-- The moves that may come next: steps, deliveries line by line, and a hand-out of each waiting reply.
abbrev pub moves_of : List Thread → List LineAddr → WalkState → List Move
moves_of threads lines state =
    steps_in threads state.places ++ flat_map (deliveries_at state.walk) lines
    ++ map moves.Hand (range_with_len 0 (length state.replies))

-- ---- what a move does

-- a thread's place is changed
abbrev pub with_change_at : ℕ → (Place → Place) → List Place → List Place
with_change_at thread change places =
    option_map_or (λ place. slice_set places thread (change place)) (slice_get places thread) places

-- the thread goes on after the step
abbrev pub gone_behind : StepPlace → List Place → List Place
gone_behind at places = with_change_at at.thread (λ place. record place { step = at.step + 1 }) places

-- the thread awaits a reply under the tag, or no longer does
abbrev pub with_waiting : ℕ → Bool → Place → Place
with_waiting tag waits place = record place { waits = slice_set place.waits tag waits }

-- A thread goes on after an access that is done at once, also awaits the reply if it is pending, and else retries it.
abbrev pub after_access : Issued → StepPlace → ℕ → List Place → List Place
after_access (issued_kinds.Done number reply) at tag places = gone_behind at places
after_access (issued_kinds.Pending seq) at tag places =
    gone_behind at (with_change_at at.thread (with_waiting tag true) places)
after_access issued at tag places = places

-- the access is made under this tag, if there is one
abbrev pub Accesses : Thread → StepPlace → WordAddr → Op → Option ℕ → WalkState → WalkState → Type 0
Accesses thread at word op None old new = new ≡ old
Accesses thread at word op (Some tag) old new =
    (issued : Issued)
    × IsIssued ((line_of_word word).0 % old.walk.config.slices) thread.core (record { op = op; word = word; tag = tag })
    issued old.walk.slices new.walk.slices
    × Makes old.walk (record {
      command = commands.Issue thread.core (record { op = op; word = word; tag = tag });
      step = Some at;
      done = is_done issued;
    }) new.walk
    × (new.places ≡ after_access issued at tag old.places) × (new.replies ≡ old.replies)

-- this step is made
abbrev pub Takes : Thread → Place → StepPlace → Option Action → WalkState → WalkState → Type 0
Takes thread place at (Some (actions.Access word op)) old new = Accesses thread at word op (free_tag place) old new
Takes thread place at (Some actions.Settle) old new = new ≡ record old { places = gone_behind at old.places }
Takes thread place at (Some (actions.Evict line)) old new =
    Makes old.walk (record { command = commands.Evict thread.core line; step = Some at; done = true }) new.walk
    × (new.places ≡ gone_behind at old.places) × (new.replies ≡ old.replies)
Takes thread place at None old new = new ≡ old

-- the next step of a thread at this place is made
abbrev pub Steps : ℕ → Option Thread → Option Place → WalkState → WalkState → Type 0
Steps number (Some thread) (Some place) old new =
    Takes thread place (record { thread = number; step = place.step }) (slice_get thread.steps.items place.step) old new
Steps number thread place old new = new ≡ old

-- the reply of an access that was performed, if its core has a thread
abbrev pub reply_to : List Thread → Entry → Option Reply
reply_to threads entry =
    option_map (λ number. record { thread = number; line = line_of_word entry.word })
    (position (λ thread. thread.core.0 == entry.core.0) threads)

-- a message is delivered, and the replies of the accesses that this performs wait
pub record Delivers (threads : List Thread) (pick : Pick) (old new : WalkState) : Type 0 where
  pub made : Makes old.walk (record { command = commands.Deliver pick; step = None; done = true }) new.walk
  pub places : new.places ≡ old.places
  pub replies : (slice : ℕ) → slice ≡ (line_of pick).0 % old.walk.config.slices
      → new.replies ≡ old.replies ++ filter_map (reply_to threads)
      (drop (length (log_at old.walk.slices slice)) (log_at new.walk.slices slice))

-- a thread that was given a reply no longer awaits it
abbrev pub after_hand : ℕ → Option Numbered → List Place → List Place
after_hand thread None places = places
after_hand thread (Some given) places = with_change_at thread (with_waiting given.entry.tag false) places

-- the reply is delivered to its thread
abbrev pub HandsTo : Option Thread → Reply → List Reply → WalkState → WalkState → Type 0
HandsTo None reply left old new = new ≡ record old { replies = left }
HandsTo (Some thread) reply left old new =
    (given : Option Numbered)
    × IsAnswered (reply.line.0 % old.walk.config.slices) (slice_calls.Hand thread.core) (call_answers.Hand given)
    old.walk.slices new.walk.slices
    × Makes old.walk (record {
      command = commands.Hand thread.core (record { 0 = reply.line.0 % old.walk.config.slices });
      step = None;
      done = true;
    }) new.walk
    × (new.places ≡ after_hand reply.thread given old.places) × (new.replies ≡ left)

-- the reply of this number is, and the last waiting reply takes its place
abbrev pub Hands : List Thread → ℕ → Option Reply → WalkState → WalkState → Type 0
Hands threads number None old new = new ≡ old
Hands threads number (Some reply) old new =
    HandsTo (slice_get threads reply.thread) reply (swap_remove old.replies number reply) old new

-- the move is made
abbrev pub Goes : List Thread → Move → WalkState → WalkState → Type 0
Goes threads (moves.Step number) old new =
    Steps number (slice_get threads number) (slice_get old.places number) old new
Goes threads (moves.Deliver pick) old new = Delivers threads pick old new
Goes threads (moves.Hand number) old new = Hands threads number (slice_get old.replies number) old new
