-- What is seen of a run: what happened to the cores' copies of lines and to words, and what was counted.
use Rattle.std.specs.Prelude.{◌≡◌, ℕ, ◌*◌, ◌==◌, ◌&&◌, nat_lt, Bool, true, false, List, [], ◌∷◌, ◌++◌, if◌then◌else◌}
use Rattle.std.specs.Prelude.{Option, Some}
use Rattle.address_map.specs.Place.{line_of}
use Rattle.address_map.specs.declared.address.CoreId.{CoreId}
use Rattle.address_map.specs.declared.address.LineAddr.{LineAddr}
use Rattle.address_map.specs.declared.address.WordAddr.{WordAddr}
use Rattle.address_map.specs.declared.config.Config.{Config}
use Rattle.address_map.specs.declared.request.Op.{Op}
use Rattle.address_map.specs.declared.request.Op.TheVariants as ops
use Rattle.program_run.specs.Cause.{cause_of, fate_of}
use Rattle.program_run.specs.Memory.{Recalls}
use Rattle.program_run.specs.declared.cause.Event.{Event}
use Rattle.program_run.specs.declared.cause.Event.TheVariants as events
use Rattle.program_run.specs.declared.cause.Fate.{Fate}
use Rattle.program_run.specs.declared.cause.Fate.TheVariants as fates
use Rattle.slice_answer.specs.declared.answer.Stall.{Stall}
use Rattle.slice_log.specs.declared.entry.Entry.{Entry}
use Rattle.slice_queues.specs.declared.channel.Pick.{Pick}
use Rattle.slice_queues.specs.declared.channel.Pick.TheVariants as picks
use Rattle.slice_queues.specs.declared.message.ForwardedMessage.TheVariants as forwarded_messages
use Rattle.slice_queues.specs.declared.message.Message.{Message}
use Rattle.slice_queues.specs.declared.message.Message.TheVariants as messages
use Rattle.program_run.specs.Tally.{new_tally, tally_after}
use Rattle.program_run.specs.declared.observer.Observer.{Observer}
use Rattle.program_run.specs.declared.tally.Counted.{Counted}
use Rattle.program_run.specs.declared.tally.Counted.TheVariants as counted_kinds

-- what happened, the newest first, and what was counted, in order
pub record History : Type 0 where
  pub happened : List Event
  pub counted : List Counted

-- nothing happened
abbrev pub no_history : History
no_history = record { happened = []; counted = [] }

-- the observer recalls what happened, and has counted what was counted
pub record HasSeen (config : Config) (history : History) (observer : Observer) : Type 0 where
  pub lines : observer.memory.lines ≡ config.lines
  pub recalls : Recalls history.happened observer.memory
  pub counts : observer.tally ≡ tally_after (new_tally config.cores config.lines) history.counted

-- what happens to this core and line is noted: there is a place for it in a memory of `lines` lines
abbrev pub has_place : ℕ → Event → Bool
has_place lines (events.Took core line) = nat_lt core.0 64 && nat_lt line.0 lines
has_place lines (events.GaveUp core line) = nat_lt core.0 64 && nat_lt line.0 lines
has_place lines (events.Lost core line) = nat_lt core.0 64 && nat_lt line.0 lines
has_place lines (events.Wrote core word) = nat_lt core.0 64 && nat_lt word.0 (lines * 8)

-- this happened, where there is a place for it
abbrev pub after_event : ℕ → Event → History → History
after_event lines event history =
    if has_place lines event then record history { happened = event ∷ history.happened } else history

-- this was counted
abbrev pub after_count : Counted → History → History
after_count what history = record history { counted = history.counted ++ what ∷ [] }

-- ---- accesses

-- an access with this reply wrote its word
abbrev pub writes : Op → ℕ → Bool
writes ops.Load reply = false
writes (ops.Store new) reply = true
writes (ops.Add delta) reply = true
writes (ops.Cas expect new) reply = reply == expect

abbrev pub after_write : ℕ → CoreId → WordAddr → Op → ℕ → History → History
after_write lines core word op reply history =
    if writes op reply then after_event lines (events.Wrote core word) history else history

-- an access was done at once
abbrev pub after_hit : ℕ → CoreId → WordAddr → Op → ℕ → History → History
after_hit lines core word op reply history =
    after_write lines core word op reply (after_count (counted_kinds.Hit core (line_of word)) history)

-- a miss is counted under its cause, which the events so far come to
abbrev pub after_miss : ℕ → CoreId → WordAddr → History → History
after_miss lines core word history =
    if nat_lt core.0 64 && nat_lt word.0 (lines * 8)
    then after_count (counted_kinds.Miss core (line_of word) (cause_of core.0 word.0 history.happened)) history else
    history

-- What was waited for: the first access that a delivery lets be performed is a miss, and those after it are secondary
-- ones.
abbrev pub after_waiting : ℕ → Bool → CoreId → WordAddr → History → History
after_waiting lines true core word history = after_miss lines core word history
after_waiting lines false core word history = after_count (counted_kinds.Secondary core (line_of word)) history

-- an access that had to wait is performed: its miss is counted, and its core has the line from now on
abbrev pub after_performing : ℕ → Bool → Entry → History → History
after_performing lines is_first entry history =
    after_write lines entry.core entry.word entry.op entry.reply
    (after_event lines (events.Took entry.core (line_of entry.word))
    (after_waiting lines is_first entry.core entry.word history))

-- an access stalled
abbrev pub after_stalling : CoreId → WordAddr → Stall → History → History
after_stalling core word stall history = after_count (counted_kinds.Stall core (line_of word) stall) history

-- ---- copies that go

-- the core's copy of a line became this last: it has the line
abbrev pub is_held : Fate → Bool
is_held fates.Held = true
is_held fate = false

-- the core has the line: it took it last
abbrev pub has_line : ℕ → CoreId → LineAddr → History → Bool
has_line lines core line history =
    (nat_lt core.0 64 && nat_lt line.0 lines) && is_held (fate_of core.0 line.0 history.happened)

-- a line was evicted to make room
abbrev pub after_eviction : ℕ → CoreId → LineAddr → History → History
after_eviction lines core line history =
    after_event lines (events.GaveUp core line) (after_count (counted_kinds.Eviction core line) history)

-- the message takes a copy away, for a core that writes
abbrev pub takes_away : Option Message → Bool
takes_away (Some (messages.Forwarded (forwarded_messages.Inv requester))) = true
takes_away (Some (messages.Forwarded (forwarded_messages.FwdGetM requester))) = true
takes_away message = false

-- a core that has the line loses it
abbrev pub after_loss : ℕ → CoreId → LineAddr → History → History
after_loss lines core line history =
    if has_line lines core line history then after_event lines (events.Lost core line) history else history

abbrev pub after_taking : ℕ → Pick → Option Message → History → History
after_taking lines (picks.Fwd line core) message history =
    if takes_away message then after_loss lines core line history else history
after_taking lines pick message history = history

-- this message, which was in front at the pick, was delivered: it is counted, and may take a copy away
abbrev pub after_message : ℕ → Pick → Option Message → History → History
after_message lines pick message history =
    after_taking lines pick message (after_count (counted_kinds.Message pick) history)
