use Rattle.std.proofs.Common.{◌≡◌, ◌∙◌, ap, rules}
use Rattle.slice_queues.specs.Lending.{with_lent}
use Rattle.slice_queues.specs.Line.{LineChannels, after_send}
use Rattle.slice_queues.specs.Slice.{at_local}
use Rattle.slice_queues.proofs.LentLaws.{lent_again, read-lent}
use Rattle.slice_queues.specs.declared.channel.Channel.TheVariants as channels
use Rattle.slice_queues.specs.declared.message.DataMessage.TheVariants as data_messages
use Rattle.slice_queues.specs.declared.message.Message.TheVariants as messages
use Rattle.slice_core_spec.proofs.RoomLaws.{both_true, takes-there}
use Rattle.slice_core_exec.proofs.send.send_from_core.Goals as goal

pub send_at-requires-clause-room : goal.send_at-requires-clause-room
send_at-requires-clause-room c =
    let line = at_local c.args.queues.now.channels c.args.local.0 in
    let parts = both_true _ _ (rw c.in-DataToRequesterAndHome.is at c.requires.room) in
    rw
    (read-lent
    c.args.queues.now c.send_data-in-DataToRequesterAndHome.new.queues c.args.local _ c.requires.line
    c.send_data-in-DataToRequesterAndHome.ensures)
    (takes-there line channels.Home parts.1).1

pub send_at-requires-in-InvAckToRequester-clause-there :
    goal.send_at-requires-in-InvAckToRequester-clause-there
send_at-requires-in-InvAckToRequester-clause-there c =
    let line = at_local c.args.queues.now.channels c.args.local.0 in
    (takes-there line (channels.Ack c.args.requester c.args.core) (rw c.in-InvAckToRequester.is at c.requires.room)).0

pub send_at-requires-in-InvAckToRequester-clause-room :
    goal.send_at-requires-in-InvAckToRequester-clause-room
send_at-requires-in-InvAckToRequester-clause-room c =
    let line = at_local c.args.queues.now.channels c.args.local.0 in
    (takes-there line (channels.Ack c.args.requester c.args.core) (rw c.in-InvAckToRequester.is at c.requires.room)).1

pub returns-in-DataToRequesterAndHome : goal.returns-in-DataToRequesterAndHome
returns-in-DataToRequesterAndHome c =
    let line = at_local c.args.queues.now.channels c.args.local.0 in
    let reply : c.data_reply-in-DataToRequesterAndHome.result ≡ data_messages.Data c.args.block.now 0 = search rules in
    let home : LineChannels → LineChannels = λ l. after_send l channels.Home (messages.Home c.args.block.now) in
    rw c.in-DataToRequesterAndHome.is
    (c.send_at.ensures.after
    ∙ lent_again c.args.queues.now c.send_data-in-DataToRequesterAndHome.new.queues c.args.local _ home c.requires.line
    c.send_data-in-DataToRequesterAndHome.ensures
    ∙ ap
    (λ reply. with_lent c.args.queues.now c.args.local
    (home (after_send line (channels.Data c.args.requester) (messages.Data reply))))
    reply)
