-- The names of messages.
use Rattle.std.specs.Prelude.{ℕ, List, ◌++◌, codes, decimal}
use Rattle.slice_queues.specs.declared.message.DataMessage.TheVariants as data_messages
use Rattle.slice_queues.specs.declared.message.ForwardedMessage.TheVariants as forwarded_messages
use Rattle.slice_queues.specs.declared.message.Message.{Message}
use Rattle.slice_queues.specs.declared.message.Message.TheVariants as messages
use Rattle.slice_queues.specs.declared.message.RequestMessage.{RequestMessage}
use Rattle.slice_queues.specs.declared.message.RequestMessage.TheVariants as request_messages

-- messages under their names in the tables, with the requester that they name, or the acknowledgements to await
abbrev pub text_of_request : RequestMessage → List ℕ
text_of_request request_messages.GetS = codes "GetS"
text_of_request request_messages.GetM = codes "GetM"
text_of_request request_messages.PutS = codes "PutS"
text_of_request (request_messages.PutM block) = codes "PutM"

abbrev pub text_of_message : Message → List ℕ
text_of_message (messages.Request request) = text_of_request request
text_of_message (messages.Forwarded (forwarded_messages.FwdGetS requester)) = codes "Fwd-GetS for core "
    ++ decimal requester.0
text_of_message (messages.Forwarded (forwarded_messages.FwdGetM requester)) = codes "Fwd-GetM for core "
    ++ decimal requester.0
text_of_message (messages.Forwarded (forwarded_messages.Inv requester)) = codes "Inv for core " ++ decimal requester.0
text_of_message (messages.Forwarded forwarded_messages.PutAck) = codes "Put-Ack"
text_of_message (messages.Data (data_messages.Data block acks)) = codes "Data(" ++ decimal acks ++ codes ")"
text_of_message (messages.Data (data_messages.DataE block)) = codes "Data-E"
text_of_message messages.InvAck = codes "Inv-Ack"
text_of_message (messages.Home block) = codes "Data home"
