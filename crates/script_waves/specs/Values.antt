-- The values of a line's signals: what a slice has of the line.
use Rattle.std.specs.Prelude.{ℕ, ◌+◌, ◌%◌, ◌&&◌, nat_le, nat_lt, if◌then◌else◌, List, [], ◌∷◌, ◌++◌, codes, decimal}
use Rattle.std.specs.Prelude.{map, slice_get, Option, Some, None, ◌-◌, ◌^◌, false, length, min}
use Rattle.std.specs.Fmt.{digits}
use Rattle.std.specs.List.{flat_map}
use Rattle.address_map.specs.Locator.{local_at}
use Rattle.address_map.specs.declared.address.LineAddr.{LineAddr}
use Rattle.address_map.specs.declared.address.Local.{Local}
use Rattle.address_map.specs.declared.config.Config.{Config}
use Rattle.cache_table.specs.Name.{name_of as name_of_copy}
use Rattle.cache_table.specs.declared.state.CopyState.{CopyState}
use Rattle.directory_table.specs.Name.{name_of as name_of_dir}
use Rattle.directory_table.specs.declared.state.DirState.{DirState}
use Rattle.script_waves.specs.Signals.{code_of}
use Rattle.script_waves.specs.declared.signal.Signal.TheVariants as signals
use Rattle.slice_core_cache.specs.CoreCache.{state_of}
use Rattle.slice_core_spec.specs.Calls.{PartsView}
use Rattle.slice_core_spec.specs.View.{View, channels_at, entry_at}
use Rattle.slice_queues.specs.Waiting.{line_waiting}
use Rattle.slice_queues.specs.declared.channel.Channel.{Channel}
use Rattle.slice_queues.specs.declared.channel.Channel.TheVariants as channels

-- ---- the channels in which a message waits, as one word

abbrev pub name_of_channel : Channel → List ℕ
name_of_channel (channels.Req core) = codes "r" ++ decimal core.0
name_of_channel (channels.Fwd core) = codes "f" ++ decimal core.0
name_of_channel (channels.Data core) = codes "d" ++ decimal core.0
name_of_channel (channels.Ack to from) = codes "a" ++ decimal to.0 ++ codes "." ++ decimal from.0
name_of_channel channels.Home = codes "h"

-- .. after another
abbrev pub text_behind : Channel → List ℕ
text_behind channel = codes "+" ++ name_of_channel channel

abbrev pub names_of : List Channel → List ℕ
names_of [] = codes "-"
names_of (first ∷ more) = name_of_channel first ++ flat_map text_behind more

-- ---- a line

-- the directory's entry is in this state
abbrev pub text_of_entry : LineAddr → DirState → List ℕ
text_of_entry line state = codes "s" ++ name_of_dir state ++ codes " " ++ code_of line signals.Directory ++ codes "\n"

-- the copy of the core with this number is in this state
abbrev pub text_of_copy : LineAddr → ℕ → CopyState → List ℕ
text_of_copy line core state =
    codes "s" ++ name_of_copy state ++ codes " " ++ code_of line (signals.Copy core) ++ codes "\n"

-- .. and so on, core by core
abbrev pub text_of_states : LineAddr → ℕ → List CopyState → List ℕ
text_of_states line core [] = []
text_of_states line core (state ∷ more) = text_of_copy line core state ++ text_of_states line (core + 1) more

-- messages wait in these channels
abbrev pub text_of_waiting : LineAddr → List Channel → List ℕ
text_of_waiting line waiting =
    codes "s" ++ (names_of waiting ++ (codes " " ++ code_of line signals.Channels ++ codes "\n"))

-- how many these are, as far as they can be counted
abbrev pub total_of : List Channel → ℕ
total_of waiting = min (length waiting) (2 ^ 64 - 1)

abbrev pub text_of_total : LineAddr → ℕ → List ℕ
text_of_total line total = codes "b" ++ digits 2 false total ++ codes " " ++ code_of line signals.Total ++ codes "\n"

-- the channels of a line at this place of its slice in which a message waits
abbrev pub waiting_of : View → Option Local → List Channel
waiting_of v None = []
waiting_of v (Some local) = line_waiting (channels_at v local)

-- what waits for a line at this place of its slice
abbrev pub text_of_mail : View → LineAddr → Option Local → List ℕ
text_of_mail v line None = []
text_of_mail v line (Some local) =
    text_of_waiting line (waiting_of v (Some local)) ++ text_of_total line (total_of (waiting_of v (Some local)))

-- a line at this place: the directory's entry, each core's copy, and the channels
abbrev pub text_of_place : View → LineAddr → Option Local → List ℕ
text_of_place v line None = []
text_of_place v line (Some local) =
    text_of_entry line (entry_at v local).state
    ++ (text_of_states line 0 (map (λ cache. state_of cache local) v.caches) ++ text_of_mail v line (Some local))

-- what a slice has of a line of its own
abbrev pub text_at : View → LineAddr → List ℕ
text_at v line = text_of_place v line (local_at v.lines line.0)

-- ---- a machine

abbrev pub text_in : Option PartsView → LineAddr → List ℕ
text_in None line = []
text_in (Some slice) line = text_at slice.view line

-- what the machine's slices have of these lines
abbrev pub text_of_lines : Config → List PartsView → List LineAddr → List ℕ
text_of_lines config slices lines = flat_map (λ line. text_in (slice_get slices (line.0 % config.slices)) line) lines

-- ---- a command

-- a byte of a word: one that isn't printable ASCII is written as `_`
abbrev pub byte_shown : ℕ → ℕ
byte_shown byte = if nat_le 33 byte && nat_lt byte 127 then byte else 95

-- a command's line as one word
abbrev pub text_of_command : List ℕ → List ℕ
text_of_command line = codes "s" ++ (flat_map (λ byte. byte_shown byte ∷ []) line ++ codes " c\n")

-- the time: how many commands were played
abbrev pub text_of_time : ℕ → List ℕ
text_of_time played = codes "#" ++ decimal played ++ codes "\n"
