-- What the exports show of the messages in flight, by the code that they return.
use Rattle.std.specs.Prelude.{◌≡◌, ℕ, ◌%◌, Option, None, Some, replicate}
use Rattle.address_map.specs.declared.address.CoreId.{CoreId}
use Rattle.address_map.specs.declared.address.LineAddr.{LineAddr}
use Rattle.address_map.specs.declared.block.Block.{Block}
use Rattle.litmus_script.specs.Machine.{HasAt}
use Rattle.lockup_c.specs.Calls.{AtMachine, IfNamed, SaysFound}
use Rattle.lockup_c.specs.Named.{line_named}
use Rattle.lockup_c.specs.Number.{channel_number, core_number, core_of_pick, sender_of_pick}
use Rattle.lockup_c.specs.declared.held.Held.{Held}
use Rattle.lockup_c.specs.declared.structs.MessageNumbers.{MessageNumbers}
use Rattle.simulator.specs.Looks.{IsCountOf, message_at, waiting_at}
use Rattle.simulator.specs.Simulator.{config_of, slices_of}
use Rattle.simulator.specs.declared.simulator.Simulator.{Simulator}
use Rattle.slice_queues.specs.Pick.{line_of}
use Rattle.slice_queues.specs.declared.channel.Pick.{Pick}
use Rattle.slice_queues.specs.declared.message.DataMessage.{DataMessage}
use Rattle.slice_queues.specs.declared.message.DataMessage.TheVariants as data_messages
use Rattle.slice_queues.specs.declared.message.ForwardedMessage.{ForwardedMessage}
use Rattle.slice_queues.specs.declared.message.ForwardedMessage.TheVariants as forwarded_messages
use Rattle.slice_queues.specs.declared.message.Message.{Message}
use Rattle.slice_queues.specs.declared.message.Message.TheVariants as messages
use Rattle.slice_queues.specs.declared.message.RequestMessage.{RequestMessage}
use Rattle.slice_queues.specs.declared.message.RequestMessage.TheVariants as request_messages

abbrev pub no_message : MessageNumbers
no_message =
    record { channel = 0; line = 0; core = 0; from = 0; kind = 0; requester = 0; acks = 0; block = replicate 8 0 }

-- a message of this kind in a channel
abbrev pub message_with : Pick → ℕ → Option CoreId → ℕ → Block → MessageNumbers
message_with pick kind requester acks carried = record {
  channel = channel_number pick;
  line = (line_of pick).0;
  core = core_of_pick pick;
  from = sender_of_pick pick;
  kind = kind;
  requester = core_number requester;
  acks = acks;
  block = carried.words;
}

abbrev pub no_block : Block
no_block = record { words = replicate 8 0 }

abbrev pub request_numbers : Pick → RequestMessage → MessageNumbers
request_numbers pick request_messages.GetS = message_with pick 0 None 0 no_block
request_numbers pick request_messages.GetM = message_with pick 1 None 0 no_block
request_numbers pick request_messages.PutS = message_with pick 2 None 0 no_block
request_numbers pick (request_messages.PutM block) = message_with pick 3 None 0 block

abbrev pub forwarded_numbers : Pick → ForwardedMessage → MessageNumbers
forwarded_numbers pick (forwarded_messages.FwdGetS core) = message_with pick 4 (Some core) 0 no_block
forwarded_numbers pick (forwarded_messages.FwdGetM core) = message_with pick 5 (Some core) 0 no_block
forwarded_numbers pick (forwarded_messages.Inv core) = message_with pick 6 (Some core) 0 no_block
forwarded_numbers pick forwarded_messages.PutAck = message_with pick 7 None 0 no_block

abbrev pub data_numbers : Pick → DataMessage → MessageNumbers
data_numbers pick (data_messages.Data block acks) = message_with pick 8 None acks block
data_numbers pick (data_messages.DataE block) = message_with pick 9 None 0 block

abbrev pub message_numbers : Pick → Message → MessageNumbers
message_numbers pick (messages.Request request) = request_numbers pick request
message_numbers pick (messages.Forwarded forwarded) = forwarded_numbers pick forwarded
message_numbers pick (messages.Data reply) = data_numbers pick reply
message_numbers pick messages.InvAck = message_with pick 10 None 0 no_block
message_numbers pick (messages.Home block) = message_with pick 11 None 0 block

abbrev pub flight_numbers : Pick × Message → MessageNumbers
flight_numbers flight = message_numbers flight.0 flight.1

-- how many channels of a line have a message
abbrev pub IsMessageCount : LineAddr → ℕ → Simulator → Type 0
IsMessageCount line count simulator =
    HasAt (slices_of simulator) (line.0 % (config_of simulator).slices)
    (λ state. IsCountOf count (waiting_at state.view line))

abbrev pub ShowsMessages : ℕ → ℕ → ℕ → Option Held → Type 0
ShowsMessages line code count =
    AtMachine
    (λ simulator. IfNamed (line_named (config_of simulator) line)
    (λ named. (code ≡ 0) × IsMessageCount named count simulator)
    ((code ≡ 2) × (count ≡ 0)))
    ((code ≡ 1) × (count ≡ 0))

-- the message in front of one of its channels
pub record IsMessageAt (line : LineAddr) (nth code : ℕ) (numbers : MessageNumbers) (simulator : Simulator) : Type 0 where
  pub found : Option (Pick × Message)
  pub is : HasAt (slices_of simulator) (line.0 % (config_of simulator).slices)
      (λ state. found ≡ message_at state.view line nth)
  pub said : SaysFound found flight_numbers no_message code numbers

abbrev pub ShowsMessage : ℕ → ℕ → ℕ → MessageNumbers → Option Held → Type 0
ShowsMessage line nth code numbers =
    AtMachine
    (λ simulator. IfNamed (line_named (config_of simulator) line)
    (λ named. IsMessageAt named nth code numbers simulator)
    ((code ≡ 2) × (numbers ≡ no_message)))
    ((code ≡ 1) × (numbers ≡ no_message))
