use Rattle.std.proofs.Common.{◌≡◌, ◌∙◌, ◌<◌, ap, if◌then◌else◌, get_or, length, nat_lt, refl, sym}
use Rattle.address_map.specs.CoreSet.{without}
use Rattle.slice_queues.specs.Forwarded.{queued_messages}
use Rattle.slice_queues.specs.Line.{CoreChannels, has_forwarded}
use Rattle.slice_queues.proofs.LineLaws.{core-there, core-read}
use Rattle.slice_queues.proofs.MailLaws.{IsLine-taken_request, IsLine-taken_forwarded, IsLine-taken_data}
use Rattle.slice_queues.proofs.MailLaws.{IsLine-taken_ack}
use Rattle.slice_queues.proofs.lines.drop_from.Goals as goal

pub returns-in-Req-clause-marked : goal.returns-in-Req-clause-marked
returns-in-Req-clause-marked c = λ line there is marked.
    let old : CoreChannels = record {
      request = c.queues.inside.request;
      forwarded = queued_messages c.queues.inside.forwarded;
      «data» = c.queues.inside.data_message;
      acks = c.queues.inside.acks;
    } in
    let within : c.args.core.0 < length line.cores = core-there line c.args.channel c.args.core c.requires there in
    let read : old ≡ get_or line.cores c.args.core.0 old =
    core-read line c.args.core.0 old within (is ∙ sym c.queues.view_is) in
    IsLine-taken_request line.cores c.args.mail.now c.args.core.0 old _ _ within read refl c.remove.ensures marked

pub returns-in-Fwd-clause-marked : goal.returns-in-Fwd-clause-marked
returns-in-Fwd-clause-marked c = λ line there is marked.
    let old : CoreChannels = record {
      request = c.queues.inside.request;
      forwarded = queued_messages c.queues.inside.forwarded;
      «data» = c.queues.inside.data_message;
      acks = c.queues.inside.acks;
    } in
    let within : c.args.core.0 < length line.cores = core-there line c.args.channel c.args.core c.requires there in
    let read : old ≡ get_or line.cores c.args.core.0 old =
    core-read line c.args.core.0 old within (is ∙ sym c.queues.view_is) in
    let marks : c.without_unless-mail.result
    ≡ (if has_forwarded (record old { forwarded = queued_messages c.pop.new.self }) then c.args.mail.now.forwarded else
    without
    c.args.mail.now.forwarded c.args.core.0) =
    c.without_unless-mail.ensures
    ∙ ap (λ waits. if waits then c.args.mail.now.forwarded else without c.args.mail.now.forwarded c.args.core.0)
    c.holds_any-waits.ensures in
    IsLine-taken_forwarded line.cores c.args.mail.now c.args.core.0 old _ _ within read
    (ap (λ queue. record old { forwarded = queue }) c.pop.ensures.rest) marks marked

pub returns-in-Data-clause-marked : goal.returns-in-Data-clause-marked
returns-in-Data-clause-marked c = λ line there is marked.
    let old : CoreChannels = record {
      request = c.queues.inside.request;
      forwarded = queued_messages c.queues.inside.forwarded;
      «data» = c.queues.inside.data_message;
      acks = c.queues.inside.acks;
    } in
    let within : c.args.core.0 < length line.cores = core-there line c.args.channel c.args.core c.requires there in
    let read : old ≡ get_or line.cores c.args.core.0 old =
    core-read line c.args.core.0 old within (is ∙ sym c.queues.view_is) in
    IsLine-taken_data line.cores c.args.mail.now c.args.core.0 old _ _ within read refl c.remove-in-Data.ensures marked

pub returns-in-Ack-clause-marked : goal.returns-in-Ack-clause-marked
returns-in-Ack-clause-marked c = λ line there is marked.
    let old : CoreChannels = record {
      request = c.queues.inside.request;
      forwarded = queued_messages c.queues.inside.forwarded;
      «data» = c.queues.inside.data_message;
      acks = c.queues.inside.acks;
    } in
    let within : c.args.core.0 < length line.cores = core-there line c.args.channel c.args.core c.requires there in
    let read : old ≡ get_or line.cores c.args.core.0 old =
    core-read line c.args.core.0 old within (is ∙ sym c.queues.view_is) in
    let marks : c.without_unless-mail-in-Ack.result
    ≡ (if nat_lt 0 c.remove-in-Ack.new.self then c.args.mail.now.acks else without c.args.mail.now.acks c.args.core.0) =
    c.without_unless-mail-in-Ack.ensures
    ∙ ap (λ n. if nat_lt 0 n then c.args.mail.now.acks else without c.args.mail.now.acks c.args.core.0)
    c.bits-waits.ensures in
    IsLine-taken_ack line.cores c.args.mail.now c.args.core.0 c.in-Ack.from.0 old _ _ within read
    (ap (λ acks. record old { acks = acks }) c.remove-in-Ack.ensures) marks marked
