-- What is sent and taken changes no line's number of cores.
use Rattle.std.proofs.Common.{◌≡◌, ℕ, Bool, true, false, if◌then◌else◌, length, refl, ◌∙◌}
use Rattle.std.proofs.lemmas.List.{length-set}
use Rattle.std.proofs.lemmas.List.FromFn.{length-map-range_with_len}
use Rattle.address_map.specs.CoreSet.{has}
use Rattle.address_map.specs.declared.address.CoreId.{CoreId}
use Rattle.address_map.specs.declared.block.Block.{Block}
use Rattle.cache_table.specs.declared.row.CacheSends.{CacheSends}
use Rattle.cache_table.specs.declared.row.CacheSends.TheVariants as cache_sends
use Rattle.directory_table.specs.declared.row.DirSends.{DirSends}
use Rattle.directory_table.specs.declared.row.DirSends.TheVariants as dir_sends
use Rattle.slice_core_spec.specs.Sends.{cache_sent, directory_sent}
use Rattle.slice_core_spec.specs.Steps.{asked_by}
use Rattle.slice_queues.specs.Line.{LineChannels, after_invalidating, after_send, after_take, core_at}
use Rattle.slice_queues.specs.Line.{with_invalidation}
use Rattle.slice_queues.specs.declared.channel.Channel.{Channel}
use Rattle.slice_queues.specs.declared.channel.Channel.TheVariants as channels
use Rattle.slice_queues.specs.declared.message.DataMessage.TheVariants as data_messages
use Rattle.slice_queues.specs.declared.message.ForwardedMessage.TheVariants as forwarded_messages
use Rattle.slice_queues.specs.declared.message.Message.{Message}
use Rattle.slice_queues.specs.declared.message.Message.TheVariants as messages
use Rattle.slice_queues.specs.declared.message.RequestMessage.TheVariants as request_messages

pub cores-sent : (line : LineChannels) (channel : Channel) (message : Message)
    → length (after_send line channel message).cores ≡ length line.cores
cores-sent line (channels.Req core) (messages.Request message) = length-set line.cores core.0 _
cores-sent line (channels.Fwd core) (messages.Forwarded message) = length-set line.cores core.0 _
cores-sent line (channels.Data core) (messages.Data message) = length-set line.cores core.0 _
cores-sent line (channels.Ack to from) messages.InvAck = length-set line.cores to.0 _
cores-sent line channels.Home (messages.Home block) = refl
cores-sent line channel message = refl

pub cores-taken : (line : LineChannels) (channel : Channel) → length (after_take line channel).cores ≡ length line.cores
cores-taken line (channels.Req core) = length-set line.cores core.0 _
cores-taken line (channels.Fwd core) = length-set line.cores core.0 _
cores-taken line (channels.Data core) = length-set line.cores core.0 _
cores-taken line (channels.Ack to from) = length-set line.cores to.0 _
cores-taken line channels.Home = refl

cores-invalidated : (line : LineChannels) (set : ℕ) (requester : CoreId)
    → length (after_invalidating line set requester).cores ≡ length line.cores
cores-invalidated line set requester =
    length-map-range_with_len
    (λ core. if has set core then with_invalidation requester (core_at line core) else core_at line core)
    0 (length line.cores)

pub cores-directory : (line : LineChannels) (core : CoreId) (block : Block) (sent : DirSends)
    → length (directory_sent line core block sent).cores ≡ length line.cores
cores-directory line core block dir_sends.Nothing = refl
cores-directory line core block (dir_sends.Data acks) =
    cores-sent line (channels.Data core) (messages.Data (data_messages.Data block acks))
cores-directory line core block dir_sends.DataE =
    cores-sent line (channels.Data core) (messages.Data (data_messages.DataE block))
cores-directory line core block (dir_sends.DataAndInv acks invalidated) =
    let reply = messages.Data (data_messages.Data block acks) in
    cores-invalidated (after_send line (channels.Data core) reply) invalidated core
    ∙ cores-sent line (channels.Data core) reply
cores-directory line core block (dir_sends.FwdGetS owner) =
    cores-sent line (channels.Fwd owner) (messages.Forwarded (forwarded_messages.FwdGetS core))
cores-directory line core block (dir_sends.FwdGetM owner) =
    cores-sent line (channels.Fwd owner) (messages.Forwarded (forwarded_messages.FwdGetM core))
cores-directory line core block dir_sends.PutAck =
    cores-sent line (channels.Fwd core) (messages.Forwarded forwarded_messages.PutAck)

pub cores-cache : (line : LineChannels) (core requester : CoreId) (block : Block) (sent : CacheSends)
    → length (cache_sent line core requester block sent).cores ≡ length line.cores
cores-cache line core requester block cache_sends.DataToRequester =
    cores-sent line (channels.Data requester) (messages.Data (data_messages.Data block 0))
cores-cache line core requester block cache_sends.DataToRequesterAndHome =
    let reply = messages.Data (data_messages.Data block 0) in
    cores-sent (after_send line (channels.Data requester) reply) channels.Home (messages.Home block)
    ∙ cores-sent line (channels.Data requester) reply
cores-cache line core requester block cache_sends.InvAckToRequester =
    cores-sent line (channels.Ack requester core) messages.InvAck
cores-cache line core requester block sent = refl

pub cores-asked : (asks : Bool) (line : LineChannels) (core : CoreId)
    → length (asked_by asks line core).cores ≡ length line.cores
cores-asked true line core = cores-sent line (channels.Req core) (messages.Request request_messages.GetM)
cores-asked false line core = refl
