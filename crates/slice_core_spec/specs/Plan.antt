-- What is to be done at the front of a channel, as a function of the state.
use Rattle.std.specs.Prelude.{ℕ, ◌&&◌, position, Bool, true, false, not, if◌then◌else◌, is_some, slice_get, Option}
use Rattle.std.specs.Prelude.{Some, None}
use Rattle.std.specs.List.{list_all}
use Rattle.address_map.specs.CoreSet.{has}
use Rattle.address_map.specs.Locator.{local_at}
use Rattle.address_map.specs.declared.address.CoreId.{CoreId}
use Rattle.address_map.specs.declared.address.Local.{Local}
use Rattle.cache_array.specs.Array.{slots_at}
use Rattle.cache_array.specs.Set.{holds}
use Rattle.cache_table.specs.Row.{row_of}
use Rattle.cache_table.specs.declared.state.CopyState.{CopyState}
use Rattle.cache_table.specs.declared.row.CacheEvent.{CacheEvent}
use Rattle.cache_table.specs.declared.row.CacheEvent.TheVariants as cache_events
use Rattle.cache_table.specs.declared.row.Row.{Row}
use Rattle.cache_table.specs.declared.row.Row.TheVariants as rows
use Rattle.directory_table.specs.Row.{row_of as dir_row_of}
use Rattle.directory_table.specs.declared.row.DirEvent.{DirEvent}
use Rattle.directory_table.specs.declared.row.DirEvent.TheVariants as dir_events
use Rattle.directory_table.specs.declared.row.DirRow.{DirRow}
use Rattle.directory_table.specs.declared.row.DirRow.TheVariants as dir_rows
use Rattle.mshr_file.specs.Miss.{targets_of}
use Rattle.slice_answer.specs.declared.answer.Cell.TheVariants as cells
use Rattle.slice_core_cache.specs.CoreCache.{copy_of}
use Rattle.slice_core_cache.specs.declared.copy.CacheCopy.{CacheCopy}
use Rattle.slice_core_spec.specs.Sends.{cache_room, directory_room}
use Rattle.slice_core_spec.specs.View.{View, channels_at, entry_at, cache_at}
use Rattle.slice_queues.specs.Line.{LineChannels, core_at}
use Rattle.slice_queues.specs.Pick.{channel_of, line_of}
use Rattle.slice_queues.specs.declared.channel.Channel.{Channel}
use Rattle.slice_queues.specs.declared.channel.Channel.TheVariants as channels
use Rattle.slice_queues.specs.declared.channel.Pick.{Pick}
use Rattle.slice_queues.specs.declared.message.DataMessage.{DataMessage}
use Rattle.slice_queues.specs.declared.message.DataMessage.TheVariants as data_messages
use Rattle.slice_queues.specs.declared.message.ForwardedMessage.{ForwardedMessage}
use Rattle.slice_queues.specs.declared.message.ForwardedMessage.TheVariants as forwarded_messages
use Rattle.slice_queues.specs.declared.message.RequestMessage.{RequestMessage}
use Rattle.slice_queues.specs.declared.message.RequestMessage.TheVariants as request_messages
use Rattle.target_list.specs.Target.{is_load}
use Rattle.slice_answer.specs.declared.answer.Delivery.TheVariants as deliveries
use Rattle.slice_answer.specs.declared.answer.Delivery.{Delivery}
use Rattle.slice_core_spec.specs.declared.transition.Transition.TheVariants as transitions
use Rattle.directory_table.specs.declared.row.DirStep.{DirStep}
use Rattle.directory_table.specs.declared.state.DirState.{DirState}
use Rattle.cache_table.specs.declared.row.CacheSends.{CacheSends}
use Rattle.slice_core_spec.specs.declared.transition.Transition.{Transition}

-- ---- the plans that move a message

-- the directory does its row for a request
abbrev pub directory_move : DirStep → Delivery Transition
directory_move step = deliveries.Moved (transitions.Directory step)

-- the block comes home, and the entry is this
abbrev pub home_move : DirState → Option CoreId → ℕ → Delivery Transition
home_move state owner sharers =
    deliveries.Moved (transitions.Home (record { state = state; owner = owner; sharers = sharers }))

-- a core does its row for a forwarded message
abbrev pub forwarded_move : CopyState → CacheSends → CoreId → Delivery Transition
forwarded_move next sends requester =
    deliveries.Moved (transitions.Forwarded (record { next = next; sends = sends; requester = requester }))

-- a core takes its data, or counts an acknowledgement, for the copy in this way of its set
abbrev pub fill_move : ℕ → CopyState → Delivery Transition
fill_move way next = deliveries.Moved (transitions.Fill (record { way = way; next = next }))

abbrev pub ack_move : ℕ → CopyState → Delivery Transition
ack_move way next = deliveries.Moved (transitions.Acknowledge (record { way = way; next = next }))

-- ---- the directory

-- the event of the directory's table that a core's request is
abbrev pub event_of_request : CoreId → RequestMessage → DirEvent
event_of_request core request_messages.GetS = dir_events.GetS core
event_of_request core request_messages.GetM = dir_events.GetM core
event_of_request core request_messages.PutS = dir_events.PutS core
event_of_request core (request_messages.PutM block) = dir_events.PutM core

-- what follows from the directory's row for a core's request
abbrev pub by_directory_row : LineChannels → CoreId → DirRow → Delivery Transition
by_directory_row line core dir_rows.NoEntry = deliveries.Broken cells.Entry
by_directory_row line core dir_rows.Blocked = deliveries.Blocked
by_directory_row line core (dir_rows.Go step) =
    if directory_room line core step.sends then directory_move step else deliveries.Broken cells.Full

abbrev pub request_by : View → Local → CoreId → Option RequestMessage → Delivery Transition
request_by v local core None = deliveries.Nothing
request_by v local core (Some message) =
    by_directory_row (channels_at v local) core
    (dir_row_of v.exclusive (entry_at v local) (event_of_request core message))

abbrev pub request_plan : View → Local → CoreId → Delivery Transition
request_plan v local core = request_by v local core (core_at (channels_at v local) core.0).request

-- what follows from the directory's row for a block that comes home, which sends nothing
abbrev pub by_home_row : DirRow → Delivery Transition
by_home_row dir_rows.NoEntry = deliveries.Broken cells.Entry
by_home_row dir_rows.Blocked = deliveries.Blocked
by_home_row (dir_rows.Go step) = home_move step.state step.owner step.sharers

abbrev pub home_plan : View → Local → Delivery Transition
home_plan v local =
    if is_some (channels_at v local).home
    then by_home_row (dir_row_of v.exclusive (entry_at v local) dir_events.DataHome)
    else deliveries.Nothing

-- ---- the caches

-- the event of the cache's table that a forwarded message is, and the core that it names
abbrev pub event_of_forwarded : ForwardedMessage → CacheEvent
event_of_forwarded (forwarded_messages.FwdGetS requester) = cache_events.FwdGetS
event_of_forwarded (forwarded_messages.FwdGetM requester) = cache_events.FwdGetM
event_of_forwarded (forwarded_messages.Inv requester) = cache_events.Inv
event_of_forwarded forwarded_messages.PutAck = cache_events.PutAck

abbrev pub requester_of : CoreId → ForwardedMessage → CoreId
requester_of core (forwarded_messages.FwdGetS requester) = requester
requester_of core (forwarded_messages.FwdGetM requester) = requester
requester_of core (forwarded_messages.Inv requester) = requester
requester_of core forwarded_messages.PutAck = core

abbrev pub is_put_ack : ForwardedMessage → Bool
is_put_ack forwarded_messages.PutAck = true
is_put_ack _ = false

-- the core's own request for the line still waits
abbrev pub asks : View → Local → CoreId → Bool
asks v local core = is_some (core_at (channels_at v local) core.0).request

-- what follows from the cache's row for a forwarded message: a Put-Ack may not come before the Put was taken
abbrev pub by_forwarded_row : View → Local → CoreId → ForwardedMessage → Row → Delivery Transition
by_forwarded_row v local core message rows.NoEntry = deliveries.Broken cells.Entry
by_forwarded_row v local core message rows.Blocked = deliveries.Blocked
by_forwarded_row v local core message (rows.Go next sent) =
    if not (cache_room (channels_at v local) core (requester_of core message) sent) then deliveries.Broken cells.Full
    else if is_put_ack message && asks v local core then deliveries.Broken cells.Early
    else forwarded_move next sent (requester_of core message)

abbrev pub forwarded_by : View → Local → CoreId → Option ForwardedMessage → Delivery Transition
forwarded_by v local core None = deliveries.Nothing
forwarded_by v local core (Some message) =
    by_forwarded_row v local core message (row_of (copy_of (cache_at v core) local).state (event_of_forwarded message))

abbrev pub forwarded_plan : View → Local → CoreId → Delivery Transition
forwarded_plan v local core = forwarded_by v local core (slice_get (core_at (channels_at v local) core.0).forwarded 0)

-- the event of the cache's table that data are, for a copy and the targets that wait for it
abbrev pub event_of_data : View → Local → CoreId → DataMessage → CacheEvent
event_of_data v local core (data_messages.Data block acks) =
    cache_events.Data acks (copy_of (cache_at v core) local).counted
event_of_data v local core (data_messages.DataE block) =
    cache_events.DataE (list_all is_load (targets_of (cache_at v core).misses local.0))

-- where a copy is in its set, if the core's array holds it: only there data and acknowledgements come for it
abbrev pub stands_at : View → Local → CoreId → Option ℕ
stands_at v local core = position (holds local) (slots_at (cache_at v core).array local)

-- what data do to a copy that is there
abbrev pub fill_at : Option ℕ → CopyState → Delivery Transition
fill_at None next = deliveries.Broken cells.Entry
fill_at (Some way) next = fill_move way next

-- what follows from the cache's row for data: they may not come before the request was taken
abbrev pub by_data_row : View → Local → CoreId → Row → Delivery Transition
by_data_row v local core rows.NoEntry = deliveries.Broken cells.Entry
by_data_row v local core rows.Blocked = deliveries.Blocked
by_data_row v local core (rows.Go next sent) =
    if asks v local core then deliveries.Broken cells.Early else fill_at (stands_at v local core) next

abbrev pub data_by : View → Local → CoreId → Option DataMessage → Delivery Transition
data_by v local core None = deliveries.Nothing
data_by v local core (Some message) =
    by_data_row v local core (row_of (copy_of (cache_at v core) local).state (event_of_data v local core message))

abbrev pub data_plan : View → Local → CoreId → Delivery Transition
data_plan v local core = data_by v local core (core_at (channels_at v local) core.0).data

-- what an acknowledgement does to a copy that is there
abbrev pub acknowledge_at : Option ℕ → CopyState → Delivery Transition
acknowledge_at None next = deliveries.Broken cells.Entry
acknowledge_at (Some way) next = ack_move way next

-- what follows from the cache's row for an acknowledgement
abbrev pub by_ack_row : View → Local → CoreId → Row → Delivery Transition
by_ack_row v local core rows.NoEntry = deliveries.Broken cells.Entry
by_ack_row v local core rows.Blocked = deliveries.Blocked
by_ack_row v local core (rows.Go next sent) = acknowledge_at (stands_at v local core) next

abbrev pub ack_plan : View → Local → CoreId → CoreId → Delivery Transition
ack_plan v local to from =
    let copy : CacheCopy = copy_of (cache_at v to) local in
    if has (core_at (channels_at v local) to.0).acks from.0
    then by_ack_row v local to (row_of copy.state (cache_events.InvAck copy.wants copy.counted))
    else deliveries.Nothing

-- What is to be done at the front of a channel of a line.
abbrev pub plan_of : View → Local → Channel → Delivery Transition
plan_of v local (channels.Req core) = request_plan v local core
plan_of v local (channels.Fwd core) = forwarded_plan v local core
plan_of v local (channels.Data core) = data_plan v local core
plan_of v local (channels.Ack to from) = ack_plan v local to from
plan_of v local channels.Home = home_plan v local

-- what is to be done at the front of a channel, by the place of its line: nothing of a line that isn't the slice's
abbrev pub planned_in : View → Option Local → Channel → Delivery Transition
planned_in v None channel = deliveries.Nothing
planned_in v (Some local) channel = plan_of v local channel

-- What is to be done with the message in front of a pick, which a delivery there would take.
abbrev pub planned_at : View → Pick → Delivery Transition
planned_at v pick = planned_in v (local_at v.lines (line_of pick).0) (channel_of pick)
