-- What a slice has of a core's misses and of its channels, one by one.
use Rattle.std.specs.Prelude.{◌≡◌, ◌<◌, ◌-◌, ◌^◌, ℕ, List, [], length, slice_get, Option, option_and_then, option_map}
use Rattle.std.specs.Option.{option_map_or}
use Rattle.address_map.specs.Locator.{local_at}
use Rattle.address_map.specs.declared.address.CoreId.{CoreId}
use Rattle.address_map.specs.declared.address.LineAddr.{LineAddr}
use Rattle.address_map.specs.declared.address.Local.{Local}
use Rattle.simulator.specs.declared.looks.MissRegister.{MissRegister}
use Rattle.slice_core.specs.Facts.{copy_at, front_at, targets_at}
use Rattle.slice_core_spec.specs.View.{View, channels_at}
use Rattle.slice_core_exec.specs.CoreLines.{lines_of_core}
use Rattle.slice_core_exec.specs.declared.core_lines.CoreLines.TheVariants as core_lines
use Rattle.slice_queues.specs.Waiting.{line_waiting}
use Rattle.slice_queues.specs.Pick.{channel_of, line_of, pick_at}
use Rattle.slice_queues.specs.declared.channel.Channel.{Channel}
use Rattle.slice_queues.specs.declared.channel.Pick.{Pick}
use Rattle.slice_queues.specs.declared.message.Message.{Message}

-- the core's miss register for a line that it waits for: its copy, and how many accesses wait
abbrev pub register_for : View → CoreId → LineAddr → Option MissRegister
register_for v core line =
    option_map
    (λ copy. record {
      line = line;
      copy = copy;
      targets = length (targets_at v core (local_at v.lines line.0));
    })
    (copy_at v core (local_at v.lines line.0))

-- its miss registers, one by one
abbrev pub register_at : View → CoreId → ℕ → Option MissRegister
register_at v core nth =
    option_and_then (register_for v core) (slice_get (lines_of_core v core core_lines.Waiting) nth)

-- the channels of a line in which a message waits, in the order of `waiting`
abbrev pub channels_waiting : View → Option Local → List Channel
channels_waiting v local = option_map_or (λ place. line_waiting (channels_at v place)) local []

abbrev pub waiting_at : View → LineAddr → List Channel
waiting_at v line = channels_waiting v (local_at v.lines line.0)

-- the message in front of a channel, and the channel
abbrev pub flight_at : View → Pick → Option (Pick × Message)
flight_at v pick =
    option_map (λ message. (pick, message)) (front_at v (local_at v.lines (line_of pick).0) (channel_of pick))

-- the messages in front of a line's channels, one by one
abbrev pub message_at : View → LineAddr → ℕ → Option (Pick × Message)
message_at v line nth =
    option_and_then (λ channel. flight_at v (pick_at line channel)) (slice_get (waiting_at v line) nth)

-- how many there are, if a number of 64 bits can count them
abbrev pub IsCountOf : {X : Type 0} → ℕ → List X → Type 0
IsCountOf count list = length list < 2 ^ 64 - 1 → count ≡ length list
