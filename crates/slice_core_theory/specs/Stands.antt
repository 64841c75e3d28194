-- When a line of a slice is a line of the protocol's machine: what is in the one is in the other, part by part.
use Rattle.std.specs.Prelude.{◌≡◌, ℕ, ◌<◌, Bool, true, false, List, [], ◌∷◌, ◌++◌, length, Option, Some, None, is_some}
use Rattle.std.specs.Prelude.{IfSome}
use Rattle.address_map.specs.CoreSet.{has}
use Rattle.address_map.specs.declared.address.Local.{Local}
use Rattle.cache_table.specs.CopyState.{is_waiting}
use Rattle.directory_table.specs.declared.state.DirEntry.{DirEntry}
use Rattle.protocol_coherence.specs.Fit.{is_counting}
use Rattle.protocol_coherence.specs.Line.{Forward, fwd_get_m, fwd_get_s, no_forward, Incoming, no_data, only_data}
use Rattle.protocol_coherence.specs.Line.{shared_data, Line, Part, Request, get_m, get_s, no_request, put_m, put_s}
use Rattle.protocol_coherence.specs.LineSteps.{Reached, stands_ack}
use Rattle.slice_core_cache.specs.CoreCache.{copy_of}
use Rattle.slice_core_cache.specs.declared.copy.CacheCopy.{CacheCopy}
use Rattle.slice_core_spec.specs.View.{View, channels_at, entry_at, cache_at}
use Rattle.slice_queues.specs.Line.{CoreChannels, LineChannels, core_at}
use Rattle.slice_queues.specs.declared.message.DataMessage.{DataMessage}
use Rattle.slice_queues.specs.declared.message.DataMessage.TheVariants as data_messages
use Rattle.slice_queues.specs.declared.message.ForwardedMessage.{ForwardedMessage}
use Rattle.slice_queues.specs.declared.message.ForwardedMessage.TheVariants as forwarded_messages
use Rattle.slice_queues.specs.declared.message.RequestMessage.{RequestMessage}
use Rattle.slice_queues.specs.declared.message.RequestMessage.TheVariants as request_messages

-- ---- channels

-- the kind of the request that waits
abbrev pub kind_of_request : Option RequestMessage → Request
kind_of_request None = no_request
kind_of_request (Some request_messages.GetS) = get_s
kind_of_request (Some request_messages.GetM) = get_m
kind_of_request (Some request_messages.PutS) = put_s
kind_of_request (Some (request_messages.PutM block)) = put_m

-- the kind of the data that wait
abbrev pub kind_of_data : Option DataMessage → Incoming
kind_of_data None = no_data
kind_of_data (Some (data_messages.Data block acks)) = shared_data
kind_of_data (Some (data_messages.DataE block)) = only_data

-- how many acknowledgements the data name
abbrev pub named_by : DataMessage → ℕ
named_by (data_messages.Data block acks) = acks
named_by (data_messages.DataE block) = 0

-- the forwarded channel, slot by slot: an Inv, a forwarded request and a Put-Ack
abbrev pub queued_inv : Bool → ℕ → List ForwardedMessage
queued_inv true core = forwarded_messages.Inv (record { 0 = core }) ∷ []
queued_inv false core = []

abbrev pub queued_forward : Forward → ℕ → List ForwardedMessage
queued_forward no_forward core = []
queued_forward fwd_get_s core = forwarded_messages.FwdGetS (record { 0 = core }) ∷ []
queued_forward fwd_get_m core = forwarded_messages.FwdGetM (record { 0 = core }) ∷ []

abbrev pub queued_put_ack : Bool → List ForwardedMessage
queued_put_ack true = forwarded_messages.PutAck ∷ []
queued_put_ack false = []

-- the messages of the core's forwarded channel, the oldest first
abbrev pub queue_of : Part → List ForwardedMessage
queue_of part =
    queued_inv part.look.inv part.owes_to
    ++ (queued_forward part.look.forward part.names ++ queued_put_ack part.look.put_ack)

-- ---- one line

-- A core's copy and its channels are this part. How many acknowledgements the copy wants counts once its data have
-- come, and how many it has counted, as long as it waits.
pub record PartStands (copy : CacheCopy) (mail : CoreChannels) (part : Part) : Type 0 where
  pub state : copy.state ≡ part.look.state
  pub request : kind_of_request mail.request ≡ part.look.request
  pub incoming : kind_of_data mail.data ≡ part.look.incoming
  pub queue : mail.forwarded ≡ queue_of part
  pub named : IfSome mail.data (λ message. named_by message ≡ part.wants)
  pub wants : is_counting part.look.state ≡ true → copy.wants ≡ part.wants
  pub counted : is_waiting part.look.state ≡ true → copy.counted ≡ part.counted

-- The directory's entry is the line's.
pub record EntryStands (entry : DirEntry) (line : Line) : Type 0 where
  pub directory : entry.state ≡ line.directory
  pub owner : entry.owner ≡ line.owner
  pub sharers : entry.sharers ≡ line.sharers

-- The acknowledgements that wait are those that the parts have sent.
pub record AcksStand (cores : ℕ) (channels : LineChannels) (part : ℕ → Part) : Type 0 where
  pub waits : (to from : ℕ) → to < cores → from < cores
      → has (core_at channels to).acks from ≡ stands_ack (part from) to
  pub senders : (to from : ℕ) → has (core_at channels to).acks from ≡ true → from < cores

-- An entry, the channels and each core's copy of one line are this line of the machine.
pub record LineStands (cores : ℕ) (entry : DirEntry) (channels : LineChannels) (copy : ℕ → CacheCopy) (line : Line)
    : Type 0 where
  pub entry_stands : EntryStands entry line
  pub home : is_some channels.home ≡ line.home
  pub part : (core : ℕ) → core < cores → PartStands (copy core) (core_at channels core) (line.part core)
  pub acks : AcksStand cores channels line.part

-- ---- the slice

-- by core, the copies of a line
abbrev pub copies_at : View → Local → ℕ → CacheCopy
copies_at v local core = copy_of (cache_at v (record { 0 = core })) local

-- The slice's line is this line of the machine.
abbrev pub Stands : View → Local → Line → Type 0
Stands v local line = LineStands (length v.caches) (entry_at v local) (channels_at v local) (copies_at v local) line

-- The slice's line is one that the machine reaches.
abbrev pub IsReached : View → Local → Type 0
IsReached v local = (line : Line) × Reached v.exclusive (length v.caches) line × Stands v local line

-- Each of its lines is.
abbrev pub AreReached : View → Type 0
AreReached v = (local : Local) → local.0 < v.lines.lines → IsReached v local
