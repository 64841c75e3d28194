-- The messages of a line as data: the one at the front of each channel, with what a delivery would do with it.
use Rattle.std.specs.Prelude.{ℕ, List, ◌++◌, codes, decimal, map, Option, Some, None}
use Rattle.address_map.specs.Locator.{local_at}
use Rattle.address_map.specs.declared.address.LineAddr.{LineAddr}
use Rattle.address_map.specs.declared.block.Block.{Block}
use Rattle.litmus_text.specs.JsonList.{with_commas}
use Rattle.slice_json.specs.Json.{text_of_block}
use Rattle.slice_answer.specs.declared.answer.Delivery.TheVariants as deliveries
use Rattle.slice_answer.specs.declared.answer.Delivery.{Delivery}
use Rattle.slice_core.specs.Facts.{front_at}
use Rattle.slice_core_spec.specs.Plan.{planned_at}
use Rattle.slice_core_spec.specs.View.{View}
use Rattle.slice_core_spec.specs.declared.transition.Transition.{Transition}
use Rattle.slice_queues.specs.Pick.{channel_of, line_of, pick_at}
use Rattle.slice_queues.specs.declared.channel.Channel.{Channel}
use Rattle.slice_queues.specs.declared.channel.Channel.TheVariants as channels
use Rattle.slice_queues.specs.declared.message.DataMessage.TheVariants as data_messages
use Rattle.slice_queues.specs.declared.message.ForwardedMessage.TheVariants as forwarded_messages
use Rattle.slice_queues.specs.declared.message.Message.{Message}
use Rattle.slice_queues.specs.declared.message.Message.TheVariants as messages
use Rattle.slice_queues.specs.declared.message.RequestMessage.{RequestMessage}
use Rattle.slice_queues.specs.declared.message.RequestMessage.TheVariants as request_messages

-- a channel: its class, its sender if the machine knows it, and its receiver
abbrev pub text_of_ends : Channel → List ℕ
text_of_ends (channels.Req core) =
    codes "\"class\":\"req\",\"from\":" ++ decimal core.0 ++ codes ",\"to\":\"directory\""
text_of_ends (channels.Fwd core) = codes "\"class\":\"fwd\",\"from\":\"directory\",\"to\":" ++ decimal core.0
text_of_ends (channels.Data core) = codes "\"class\":\"data\",\"to\":" ++ decimal core.0
text_of_ends (channels.Ack to from) =
    codes "\"class\":\"ack\",\"from\":" ++ decimal from.0 ++ codes ",\"to\":" ++ decimal to.0
text_of_ends channels.Home = codes "\"class\":\"home\",\"to\":\"directory\""

-- what a message is, with the requester that it names or the acknowledgements to await
abbrev pub name_of : RequestMessage → List ℕ
name_of request_messages.GetS = codes "\"kind\":\"GetS\""
name_of request_messages.GetM = codes "\"kind\":\"GetM\""
name_of request_messages.PutS = codes "\"kind\":\"PutS\""
name_of (request_messages.PutM block) = codes "\"kind\":\"PutM\""

abbrev pub text_of_kind : Message → List ℕ
text_of_kind (messages.Request request) = name_of request
text_of_kind (messages.Forwarded (forwarded_messages.FwdGetS requester)) =
    codes "\"kind\":\"Fwd-GetS\",\"for\":" ++ decimal requester.0
text_of_kind (messages.Forwarded (forwarded_messages.FwdGetM requester)) =
    codes "\"kind\":\"Fwd-GetM\",\"for\":" ++ decimal requester.0
text_of_kind (messages.Forwarded (forwarded_messages.Inv requester)) =
    codes "\"kind\":\"Inv\",\"for\":" ++ decimal requester.0
text_of_kind (messages.Forwarded forwarded_messages.PutAck) = codes "\"kind\":\"Put-Ack\""
text_of_kind (messages.Data (data_messages.Data block acks)) = codes "\"kind\":\"Data\",\"acks\":" ++ decimal acks
text_of_kind (messages.Data (data_messages.DataE block)) = codes "\"kind\":\"Data-E\""
text_of_kind messages.InvAck = codes "\"kind\":\"Inv-Ack\""
text_of_kind (messages.Home block) = codes "\"kind\":\"Data home\""

-- the block that it carries
abbrev pub block_in : Message → Option Block
block_in (messages.Request (request_messages.PutM block)) = Some block
block_in (messages.Data (data_messages.Data block acks)) = Some block
block_in (messages.Data (data_messages.DataE block)) = Some block
block_in (messages.Home block) = Some block
block_in message = None

-- what a delivery would do with it
abbrev pub text_of_fate : Delivery Transition → List ℕ
text_of_fate (deliveries.Moved step) = codes "moves"
text_of_fate deliveries.Blocked = codes "blocked"
text_of_fate deliveries.Nothing = codes "nothing"
text_of_fate (deliveries.Broken cell) = codes "broken"

abbrev pub text_of_begin : Channel → Message → List ℕ
text_of_begin channel message =
    codes "{" ++ text_of_ends channel ++ codes "," ++ text_of_kind message ++ codes ",\"block\":"

abbrev pub text_of_end : Delivery Transition → List ℕ
text_of_end plan = codes ",\"fate\":\"" ++ text_of_fate plan ++ codes "\"}"

-- a message at the front of a channel, for which this is planned
abbrev pub text_of_message : Channel → Message → Delivery Transition → List ℕ
text_of_message channel message plan =
    text_of_begin channel message ++ (text_of_block (block_in message) ++ text_of_end plan)

abbrev pub text_of_front : Channel → Option Message → Delivery Transition → List ℕ
text_of_front channel None plan = codes "null"
text_of_front channel (Some message) plan = text_of_message channel message plan

-- what is at the front of a channel of a line
abbrev pub text_at : View → LineAddr → Channel → List ℕ
text_at v line channel =
    let pick = pick_at line channel in
    text_of_front channel (front_at v (local_at v.lines (line_of pick).0) (channel_of pick)) (planned_at v pick)

-- .. and of each of these channels
abbrev pub list_of_messages : View → LineAddr → List Channel → List ℕ
list_of_messages v line waiting = codes "[" ++ (with_commas (map (text_at v line) waiting) ++ codes "]")
