-- A delivery: the message in front of a channel is taken, and the row of its table is done, the directory's or a
-- cache's. The core's own parts in it are `after_advance`, `copy_after_fill`, `copy_after_ack` and `after_settle` of
-- `slice_core_cache` (specs/Steps.antt).
use Rattle.std.specs.Prelude.{◌≡◌, ℕ, ◌-◌, true, List, length, Option, Some, None, Bool, false, ◌++◌, unwrap_or}
use Rattle.std.specs.Prelude.{if◌then◌else◌}
use Rattle.address_map.specs.Locator.{local_at}
use Rattle.address_map.specs.declared.address.CoreId.{CoreId}
use Rattle.address_map.specs.declared.address.Local.{Local}
use Rattle.address_map.specs.declared.block.Block.{Block}
use Rattle.cache_table.specs.declared.row.CacheSends.{CacheSends}
use Rattle.cache_table.specs.declared.state.CopyState.{CopyState}
use Rattle.directory_table.specs.declared.row.DirStep.{DirStep}
use Rattle.directory_table.specs.declared.state.DirState.{DirState}
use Rattle.mshr_file.specs.Miss.{targets_of, IsMissFile, TakesTargets}
use Rattle.mshr_file.specs.declared.registers.Register.{Register}
use Rattle.slice_answer.specs.Stats.{after_message}
use Rattle.slice_answer.specs.declared.answer.Delivered.TheVariants as delivered
use Rattle.slice_answer.specs.declared.answer.Delivered.{Delivered}
use Rattle.slice_core_spec.specs.Plan.{planned_at}
use Rattle.slice_core_spec.specs.Sends.{cache_sent, directory_sent}
use Rattle.slice_core_spec.specs.Parts.{PartsView}
use Rattle.slice_core_spec.specs.View.{View, channels_at, cache_at, entry_at, first_word, with_channels, with_entry}
use Rattle.slice_core_spec.specs.View.{with_cache}
use Rattle.slice_core_cache.specs.Perform.{performed_in, asks_to_write, entries_of}
use Rattle.slice_core_cache.specs.CoreCache.{array_copy, copy_of}
use Rattle.slice_core_cache.specs.Steps as caches
use Rattle.slice_core_cache.specs.Steps.{copy_after_ack, copy_after_fill}
use Rattle.slice_core_cache.specs.declared.copy.CacheCopy.{CacheCopy}
use Rattle.slice_queues.specs.Line.{core_at, LineChannels, after_send, after_take}
use Rattle.slice_queues.specs.Ring.{with_listed}
use Rattle.slice_queues.specs.Pick.{channel_of, line_of}
use Rattle.slice_queues.specs.declared.channel.Channel.TheVariants as channels
use Rattle.slice_queues.specs.declared.channel.Channel.{Channel}
use Rattle.slice_queues.specs.declared.channel.Pick.{Pick}
use Rattle.slice_queues.specs.declared.message.DataMessage.TheVariants as data_messages
use Rattle.slice_queues.specs.declared.message.DataMessage.{DataMessage}
use Rattle.slice_queues.specs.declared.message.Message.TheVariants as messages
use Rattle.slice_queues.specs.declared.message.RequestMessage.TheVariants as request_messages
use Rattle.slice_queues.specs.declared.message.RequestMessage.{RequestMessage}
use Rattle.slice_answer.specs.declared.answer.Delivery.TheVariants as deliveries
use Rattle.slice_answer.specs.declared.answer.Delivery.{Delivery}
use Rattle.slice_core_spec.specs.declared.transition.Transition.TheVariants as transitions
use Rattle.slice_core_spec.specs.declared.transition.Transition.{Transition}

-- ---- the directory

-- the block that goes along with a request, which PutM alone has
abbrev pub block_in : Block → Option RequestMessage → Block
block_in home (Some (request_messages.PutM block)) = block
block_in home _ = home

-- The directory did its row for a core's request: the entry, the home copy where the row writes it, and what is sent.
abbrev pub after_directory : View → Local → CoreId → DirStep → View
after_directory v local core step =
    let entry = entry_at v local in
    let line = channels_at v local in
    let home = if step.writes_home then block_in entry.home (core_at line core.0).request else entry.home in
    with_channels
    (with_entry v local (record { home = home; sharers = step.sharers; owner = step.owner; state = step.state }))
    local (directory_sent (after_take line (channels.Req core)) core entry.home step.sends)

-- The block that came home is the home copy.
abbrev pub after_home : View → Local → DirState → Option CoreId → ℕ → View
after_home v local state owner sharers =
    let entry = entry_at v local in
    let line = channels_at v local in
    with_channels
    (with_entry v local
    (record { home = unwrap_or line.home entry.home; sharers = sharers; owner = owner; state = state }))
    local (after_take line channels.Home)

-- ---- the caches

-- The core did its row for a forwarded message: its copy went on, and what the row sends carries the copy's block.
abbrev pub after_forwarded : View → Local → CoreId → CopyState → CacheSends → CoreId → View
after_forwarded v local core next sent requester =
    with_channels
    (with_cache v core (caches.after_advance (cache_at v core) local next))
    local
    (cache_sent (after_take (channels_at v local) (channels.Fwd core)) core requester
    (copy_of (cache_at v core) local).block sent)

-- the right to write is asked for, where a write is left
abbrev pub asked_by : Bool → LineChannels → CoreId → LineChannels
asked_by true line core = after_send line (channels.Req core) (messages.Request request_messages.GetM)
asked_by false line core = line

-- The core's copy has changed by a message of a channel: the targets that it allows now are performed and logged, and
-- the right to write is asked for where a write is left.
abbrev pub after_settling : View → Local → CoreId → Channel → CacheCopy → List Register → View
after_settling v local core channel copy misses =
    let cache = caches.after_change (cache_at v core) local copy in
    let targets = targets_of cache.misses local.0 in
    let line = after_take (channels_at v local) channel in
    record (with_channels (with_cache v core (caches.after_settle cache local (length v.log) misses)) local
    (asked_by (asks_to_write copy.state targets) line core)) {
      log = v.log ++ entries_of core (first_word v local) copy.block (performed_in copy.state targets);
    }

-- ---- what is counted, and what is answered

-- a message of this channel of a line was taken: the view is another, the message is counted, and the line is in
-- the ring
abbrev pub Moves : PartsView → Local → Channel → View → PartsView → Type 0
Moves old local channel view new =
    new
    ≡ record old {
      view = view;
      stats = after_message old.stats channel;
      ring = with_listed old.ring local.0;
    }

-- A message changed the core's copy: the targets that it allows are performed, and wait no more.
abbrev pub Settles : PartsView → Local → CoreId → Channel → CacheCopy → PartsView → Type 0
Settles old local core channel copy new =
    let targets = targets_of (cache_at old.view core).misses local.0 in
    let taken = performed_in copy.state targets in
    (misses : List Register)
    × TakesTargets (cache_at old.view core).misses misses local.0 taken
    × (IsMissFile (cache_at old.view core).misses → IsMissFile misses)
    × (new ≡ record old {
      view = after_settling old.view local core channel copy misses;
      stats = after_message old.stats channel;
      pending = old.pending - length taken;
      ring = with_listed old.ring local.0;
    })

-- the copy with the data that wait for the core
abbrev pub filled_by : CacheCopy → Option DataMessage → CopyState → CacheCopy
filled_by copy None next = record copy { state = next }
filled_by copy (Some (data_messages.Data block acks)) next = copy_after_fill copy block acks next
filled_by copy (Some (data_messages.DataE block)) next = copy_after_fill copy block 0 next

-- the core at a channel of a core
abbrev pub core_of : Channel → CoreId
core_of (channels.Req core) = core
core_of (channels.Fwd core) = core
core_of (channels.Data core) = core
core_of (channels.Ack to from) = to
core_of channels.Home = record { 0 = 0 }

-- What a delivery that moves a message leaves, by what is done with the message.
abbrev pub AfterMove : Transition → PartsView → Local → Channel → PartsView → Type 0
AfterMove (transitions.Directory step) old local channel new =
    Moves old local channel (after_directory old.view local (core_of channel) step) new
AfterMove (transitions.Home step) old local channel new =
    Moves old local channel (after_home old.view local step.state step.owner step.sharers) new
AfterMove (transitions.Forwarded step) old local channel new =
    Moves old local channel
    (after_forwarded old.view local (core_of channel) step.next step.sends step.requester) new
AfterMove (transitions.Fill step) old local channel new =
    let core = core_of channel in
    Settles old local core channel
    (filled_by (array_copy (cache_at old.view core) local) (core_at (channels_at old.view local) core.0).data step.next)
    new
AfterMove (transitions.Acknowledge step) old local channel new =
    let core = core_of channel in
    Settles old local core channel (copy_after_ack (array_copy (cache_at old.view core) local) step.next) new

-- What a delivery at a channel of a line returns and leaves, by what is planned.
abbrev pub AfterPlan : Delivery Transition → PartsView → Local → Channel → Delivered → PartsView → Type 0
AfterPlan deliveries.Nothing old local channel answer new = (answer ≡ delivered.Nothing) × (new ≡ old)
AfterPlan deliveries.Blocked old local channel answer new = (answer ≡ delivered.Blocked) × (new ≡ old)
AfterPlan (deliveries.Broken cell) old local channel answer new = (answer ≡ delivered.Broken cell) × (new ≡ old)
AfterPlan (deliveries.Moved step) old local channel answer new =
    (answer ≡ delivered.Moved) × AfterMove step old local channel new

-- the place of a line; where the slice hasn't the line nothing is planned, and the place isn't used
abbrev pub local_in : Option Local → Local
local_in None = record { 0 = 0 }
local_in (Some local) = local

-- What a delivery returns and leaves: what is planned for the message in front of the pick is done.
abbrev pub AfterDelivery : PartsView → Pick → Delivered → PartsView → Type 0
AfterDelivery old pick answer new =
    AfterPlan (planned_at old.view pick) old (local_in (local_at old.view.lines (line_of pick).0))
    (channel_of pick) answer
    new
