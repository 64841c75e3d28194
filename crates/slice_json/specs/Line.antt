-- A line as data: the directory's entry, the home copy, and the messages at the fronts of its channels.
use Rattle.std.specs.Prelude.{ℕ, List, ◌++◌, codes, decimal, Option, Some, None}
use Rattle.address_map.specs.Locator.{local_at}
use Rattle.address_map.specs.declared.address.CoreId.{CoreId}
use Rattle.address_map.specs.declared.address.LineAddr.{LineAddr}
use Rattle.address_map.specs.declared.address.Local.{Local}
use Rattle.directory_table.specs.Name.{name_of as name_of_dir}
use Rattle.directory_table.specs.declared.state.DirEntry.{DirEntry}
use Rattle.directory_table.specs.declared.state.DirState.{DirState}
use Rattle.slice_json.specs.Json.{list_of_cores, list_of_values}
use Rattle.slice_json.specs.Message.{list_of_messages}
use Rattle.slice_core_spec.specs.View.{View, channels_at, entry_at}
use Rattle.slice_queues.specs.Waiting.{line_waiting}

abbrev pub text_of_entry : LineAddr → DirState → Option CoreId → List ℕ
text_of_entry line dir (Some owner) =
    codes "{\"line\":" ++ decimal line.0 ++ codes ",\"dir\":\"" ++ name_of_dir dir ++ codes "\",\"owner\":"
    ++ decimal owner.0 ++ codes ","
text_of_entry line dir None =
    codes "{\"line\":" ++ decimal line.0 ++ codes ",\"dir\":\"" ++ name_of_dir dir ++ codes "\",\"owner\":null,"

abbrev pub text_of_set : ℕ → List ℕ
text_of_set sharers = codes "\"sharers\":" ++ list_of_cores sharers ++ codes ",\"home\":"

-- the messages of a line at this place of its slice
abbrev pub text_of_mail : View → LineAddr → Option Local → List ℕ
text_of_mail v line None = codes "}"
text_of_mail v line (Some local) =
    codes ",\"messages\":" ++ (list_of_messages v line (line_waiting (channels_at v local)) ++ codes "}")

-- a line with this entry, and after it this text
abbrev pub text_with : LineAddr → DirEntry → List ℕ → List ℕ
text_with line entry mail =
    text_of_entry line entry.state entry.owner
    ++ (text_of_set entry.sharers ++ (list_of_values entry.home.words ++ mail))

abbrev pub text_of_place : View → LineAddr → Option Local → List ℕ
text_of_place v line None = codes "null"
text_of_place v line (Some local) = text_with line (entry_at v local) (text_of_mail v line (Some local))

-- a slice's view of a line, or null if the line isn't the slice's
abbrev pub text_of_line : View → LineAddr → List ℕ
text_of_line v line = text_of_place v line (local_at v.lines line.0)

abbrev pub text_of_line_in : View → Option LineAddr → List ℕ
text_of_line_in v None = codes "null"
text_of_line_in v (Some line) = text_of_line v line
