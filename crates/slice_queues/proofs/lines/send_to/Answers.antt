use Rattle.std.proofs.Common.{◌≡◌, ◌∙◌, ◌<◌, ap, get_or, length, refl, sym}
use Rattle.slice_queues.specs.Forwarded.{queued_messages}
use Rattle.slice_queues.specs.Line.{CoreChannels}
use Rattle.slice_queues.proofs.LineLaws.{core-there, core-read}
use Rattle.slice_queues.proofs.MailLaws.{IsLine-sent_request, IsLine-sent_forwarded, IsLine-sent_data, IsLine-sent_ack}
use Rattle.slice_queues.proofs.lines.send_to.Goals as goal

pub returns-in-Req-Request-clause-marked : goal.returns-in-Req-Request-clause-marked
returns-in-Req-Request-clause-marked c = λ line there is marked.
    let old : CoreChannels = record {
      request = c.queues.inside.request;
      forwarded = queued_messages c.queues.inside.forwarded;
      «data» = c.queues.inside.data_message;
      acks = c.queues.inside.acks;
    } in
    let within : c.args.core.0 < length line.cores = core-there line c.args.channel c.args.core c.requires.core there in
    let read : old ≡ get_or line.cores c.args.core.0 old =
    core-read line c.args.core.0 old within (is ∙ sym c.queues.view_is) in
    IsLine-sent_request line.cores c.args.mail.now c.args.core.0 old _ c.in-Req-Request.message _ within read refl
    c.insert.ensures marked

pub returns-in-Fwd-Forwarded-clause-marked : goal.returns-in-Fwd-Forwarded-clause-marked
returns-in-Fwd-Forwarded-clause-marked c = λ line there is marked.
    let old : CoreChannels = record {
      request = c.queues.inside.request;
      forwarded = queued_messages c.queues.inside.forwarded;
      «data» = c.queues.inside.data_message;
      acks = c.queues.inside.acks;
    } in
    let within : c.args.core.0 < length line.cores = core-there line c.args.channel c.args.core c.requires.core there in
    let read : old ≡ get_or line.cores c.args.core.0 old =
    core-read line c.args.core.0 old within (is ∙ sym c.queues.view_is) in
    IsLine-sent_forwarded line.cores c.args.mail.now c.args.core.0 old _ c.in-Fwd-Forwarded.message _ within read
    (ap (λ queue. record old { forwarded = queue }) c.push.ensures) c.insert-in-Fwd-Forwarded.ensures marked

pub returns-in-Data-Data-clause-marked : goal.returns-in-Data-Data-clause-marked
returns-in-Data-Data-clause-marked c = λ line there is marked.
    let old : CoreChannels = record {
      request = c.queues.inside.request;
      forwarded = queued_messages c.queues.inside.forwarded;
      «data» = c.queues.inside.data_message;
      acks = c.queues.inside.acks;
    } in
    let within : c.args.core.0 < length line.cores = core-there line c.args.channel c.args.core c.requires.core there in
    let read : old ≡ get_or line.cores c.args.core.0 old =
    core-read line c.args.core.0 old within (is ∙ sym c.queues.view_is) in
    IsLine-sent_data line.cores c.args.mail.now c.args.core.0 old _ c.in-Data-Data.message _ within read refl
    c.insert-in-Data-Data.ensures marked

pub returns-in-Ack-InvAck-clause-marked : goal.returns-in-Ack-InvAck-clause-marked
returns-in-Ack-InvAck-clause-marked c = λ line there is marked.
    let old : CoreChannels = record {
      request = c.queues.inside.request;
      forwarded = queued_messages c.queues.inside.forwarded;
      «data» = c.queues.inside.data_message;
      acks = c.queues.inside.acks;
    } in
    let within : c.args.core.0 < length line.cores = core-there line c.args.channel c.args.core c.requires.core there in
    let read : old ≡ get_or line.cores c.args.core.0 old =
    core-read line c.args.core.0 old within (is ∙ sym c.queues.view_is) in
    let from_there : c.in-Ack-InvAck.from.0 < length line.cores = (rw c.in-Ack-InvAck.is-0 at there).1 in
    IsLine-sent_ack line.cores c.args.mail.now c.args.core.0 c.in-Ack-InvAck.from.0 old _ _ within from_there read
    (ap (λ acks. record old { acks = acks }) c.insert-in-Ack-InvAck.ensures) c.insert-in-Ack-InvAck-2.ensures marked
