-- Lines of a machine as data.
use Rattle.std.specs.Prelude.{ℕ, ◌%◌, Bool, false, not, is_some, if◌then◌else◌, List, [], ◌∷◌, ◌++◌, codes, length}
use Rattle.std.specs.Prelude.{slice_get, Option, Some, None}
use Rattle.std.specs.List.{flat_map, range_with_len}
use Rattle.address_map.specs.Locator.{local_at}
use Rattle.address_map.specs.declared.address.CoreId.{CoreId}
use Rattle.address_map.specs.declared.address.LineAddr.{LineAddr}
use Rattle.address_map.specs.declared.address.Local.{Local}
use Rattle.address_map.specs.declared.config.Config.{Config}
use Rattle.litmus_text.specs.JsonList.{with_commas, with_commas_from}
use Rattle.script_json.specs.declared.held.Choice.{Choice}
use Rattle.script_json.specs.declared.held.Choice.TheVariants as choices
use Rattle.slice_core.specs.Facts.{copy_at}
use Rattle.slice_core_cache.specs.Copy.{is_gone}
use Rattle.slice_core_cache.specs.declared.copy.CacheCopy.{CacheCopy}
use Rattle.slice_core_spec.specs.Calls.{PartsView}
use Rattle.slice_core_spec.specs.View.{View, channels_at}
use Rattle.slice_json.specs.Copy.{text_of_copy}
use Rattle.slice_json.specs.Line.{text_of_line}
use Rattle.slice_queues.specs.Waiting.{line_waiting}
use Rattle.slice_text.specs.Shown.{rests}

-- a text, if it is one of those that are shown
abbrev pub text_if : Bool → List ℕ → List (List ℕ)
text_if told text = if told then text ∷ [] else []

-- ---- which lines

-- a message of the line waits
abbrev pub has_message : View → Option Local → Bool
has_message v None = false
has_message v (Some local) = is_some (slice_get (line_waiting (channels_at v local)) 0)

-- the line isn't at rest
abbrev pub is_moving : View → Option Local → Bool
is_moving v None = false
is_moving v (Some local) = not (rests v local)

abbrev pub is_chosen : Choice → View → Option Local → Bool
is_chosen choices.Waiting v local = has_message v local
is_chosen choices.Moving v local = is_moving v local

-- ---- a line

-- something is left of a core's copy
abbrev pub is_left : Option CacheCopy → Bool
is_left None = false
is_left (Some copy) = not (is_gone copy.state)

abbrev pub has_copy : View → LineAddr → CoreId → Bool
has_copy v line core = is_left (copy_at v core (local_at v.lines line.0))

-- the copies of these cores
abbrev pub copies_of : View → LineAddr → List ℕ → List (List ℕ)
copies_of v line cores =
    flat_map (λ core. text_if (has_copy v line (record { 0 = core })) (text_of_copy v (record { 0 = core }) line)) cores

abbrev pub list_of_copies : View → LineAddr → List ℕ
list_of_copies v line = with_commas (copies_of v line (range_with_len 0 (length v.caches)))

-- a line with its messages, and the copies of it
abbrev pub text_of_held : View → LineAddr → List ℕ
text_of_held v line =
    codes "{\"line\":" ++ (text_of_line v line ++ (codes ",\"copies\":[" ++ (list_of_copies v line ++ codes "]}")))

-- ---- the lines of a machine

abbrev pub is_chosen_in : Choice → LineAddr → Option PartsView → Bool
is_chosen_in choice line None = false
is_chosen_in choice line (Some p) = is_chosen choice p.view (local_at p.view.lines line.0)

abbrev pub text_in : LineAddr → Option PartsView → List ℕ
text_in line None = []
text_in line (Some p) = text_of_held p.view line

abbrev pub text_at : Choice → LineAddr → Option PartsView → List (List ℕ)
text_at choice line state = text_if (is_chosen_in choice line state) (text_in line state)

-- the chosen of these lines, each in its slice
abbrev pub texts_of : Choice → Config → List PartsView → List ℕ → List (List ℕ)
texts_of choice config slices lines =
    flat_map (λ number. text_at choice (record { 0 = number }) (slice_get slices (number % config.slices))) lines

-- .. of all, as items of a list, which may have begun
abbrev pub lines_from : Bool → Choice → Config → List PartsView → List ℕ
lines_from first choice config slices =
    with_commas_from first (texts_of choice config slices (range_with_len 0 config.lines))
