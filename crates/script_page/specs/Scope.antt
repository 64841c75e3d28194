-- What a command can change: in a slice a line, and what a core has there.
use Rattle.std.specs.Prelude.{◌%◌, Bool, true, false, Option, Some, None}
use Rattle.address_map.specs.Place.{line_of as line_of_word}
use Rattle.address_map.specs.declared.address.CoreId.{CoreId}
use Rattle.address_map.specs.declared.address.LineAddr.{LineAddr}
use Rattle.address_map.specs.declared.config.Config.{Config}
use Rattle.litmus_text.specs.Look.{line_of_look}
use Rattle.litmus_text.specs.declared.command.Command.{Command}
use Rattle.litmus_text.specs.declared.command.Command.TheVariants as commands
use Rattle.script_page.specs.declared.scope.Scope.{Scope}
use Rattle.slice_queues.specs.Pick.{line_of}
use Rattle.slice_queues.specs.declared.channel.Pick.{Pick}
use Rattle.slice_queues.specs.declared.channel.Pick.TheVariants as picks

-- the core that takes the messages of a channel: none where the directory does
abbrev pub taker_of : Pick → Option CoreId
taker_of (picks.Req line core) = None
taker_of (picks.Fwd line core) = Some core
taker_of (picks.Data line core) = Some core
taker_of (picks.Ack line to from) = Some to
taker_of (picks.Home line) = None

-- a line belongs to the slice that its number gives
abbrev pub of_line : Config → LineAddr → Option CoreId → Bool → Option Scope
of_line config line core evicts =
    Some (record { slice = line.0 % config.slices; line = Some line; core = core; evicts = evicts })

-- what is shown of several lines or slices has none
abbrev pub scope_of_look : Config → Option LineAddr → Option Scope
scope_of_look config None = None
scope_of_look config (Some line) = of_line config line None false

-- what a command can change; an access can evict another line. A pump's deliveries have scopes of their own.
abbrev pub scope_of : Config → Command → Option Scope
scope_of config (commands.Issue core request) = of_line config (line_of_word request.word) (Some core) true
scope_of config (commands.Evict core line) = of_line config line (Some core) false
scope_of config (commands.Deliver pick) = of_line config (line_of pick) (taker_of pick) false
scope_of config (commands.Look look) = scope_of_look config (line_of_look look)
scope_of config (commands.Hand core slice) =
    Some (record { slice = slice.0; line = None; core = Some core; evicts = false })
scope_of config command = None
