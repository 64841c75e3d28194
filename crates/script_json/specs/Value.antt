-- A command and its answer as one value of JSON.
use Rattle.std.specs.Prelude.{ℕ, List, [], ◌++◌, codes, decimal, map, Option, Some, None}
use Rattle.litmus_text.specs.JsonList.{with_commas}
use Rattle.litmus_text.specs.Text.{words_of_line}
use Rattle.litmus_text.specs.declared.command.Command.{Command}
use Rattle.script_json.specs.Call.{text_of_call}
use Rattle.script_json.specs.Text.{quoted, value_of}

-- what happened after an answer, if that is reported
abbrev pub happened_of : Option (List ℕ) → List ℕ
happened_of None = []
happened_of (Some told) = codes ",\"happened\":" ++ quoted told

-- an item of an answer, with these members
abbrev pub item_of : List ℕ → Option (List ℕ) → List ℕ
item_of members told = codes "{" ++ (members ++ (happened_of told ++ codes "}"))

-- a line of what a command shows, by its words
abbrev pub item_of_line : List ℕ → List ℕ
item_of_line line = codes "{\"words\":[" ++ (with_commas (map value_of (words_of_line line)) ++ codes "]}")

-- the items of such lines
abbrev pub items_of_lines : List (List ℕ) → List ℕ
items_of_lines shown = with_commas (map item_of_line shown)

-- what is before the command as data: the number of its line, and the line
abbrev pub head_of : ℕ → List ℕ → List ℕ
head_of number line =
    codes "{\"line\":" ++ decimal number ++ codes ",\"command\":" ++ quoted line ++ codes ",\"call\":"

-- .. and after it: the items of its answer
abbrev pub tail_of : List ℕ → List ℕ
tail_of items = codes ",\"answer\":[" ++ items ++ codes "]}\n"

-- the value of a command, in one line
abbrev pub object_of : ℕ → List ℕ → Command → List ℕ → List ℕ
object_of number line command items = head_of number line ++ (text_of_call command ++ tail_of items)
