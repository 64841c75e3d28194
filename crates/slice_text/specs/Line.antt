-- A slice's view of a line, as one line of text.
use Rattle.std.specs.Prelude.{ℕ, List, ◌++◌, codes, decimal, Option, Some, None}
use Rattle.std.specs.List.{flat_map}
use Rattle.address_map.specs.CoreSet.{members}
use Rattle.address_map.specs.declared.address.CoreId.{CoreId}
use Rattle.address_map.specs.declared.address.LineAddr.{LineAddr}
use Rattle.cache_table.specs.Name.{name_of as name_of_copy}
use Rattle.cache_table.specs.declared.state.CopyState.{CopyState}
use Rattle.directory_table.specs.Name.{name_of as name_of_dir}
use Rattle.directory_table.specs.declared.state.DirEntry.{DirEntry}
use Rattle.directory_table.specs.declared.state.DirState.{DirState}
use Rattle.slice_core_exec.specs.declared.line_view.LineView.{LineView}
use Rattle.slice_text.specs.Cores.{text_of_cores}

-- the line, and the state of the directory's entry
abbrev pub text_of_entry : LineAddr → DirState → List ℕ
text_of_entry line dir = codes "line " ++ decimal line.0 ++ codes " dir " ++ name_of_dir dir

-- its owner, or a dash if there is none
abbrev pub text_of_owner : Option CoreId → List ℕ
text_of_owner (Some owner) = codes " owner " ++ decimal owner.0
text_of_owner None = codes " owner -"

-- a block, word by word
abbrev pub text_of_words : List ℕ → List ℕ
text_of_words words = flat_map (λ word. codes " " ++ decimal word) words

-- the states of the copies, core by core
abbrev pub text_of_states : List CopyState → List ℕ
text_of_states states = flat_map (λ state. codes " " ++ name_of_copy state) states

-- a line: the directory's entry, the home copy, and each core's copy
abbrev pub text_of_state : LineAddr → DirEntry → List CopyState → List ℕ
text_of_state line entry copies =
    text_of_entry line entry.state ++ (text_of_owner entry.owner
    ++ ((codes " sharers " ++ text_of_cores (members entry.sharers))
    ++ ((codes " home" ++ text_of_words entry.home.words)
    ++ ((codes " cores" ++ text_of_states copies) ++ codes "\n"))))

-- the entry that a slice shows
abbrev pub entry_in : LineView → DirEntry
entry_in shown =
    record { home = record { words = shown.home }; sharers = shown.sharers; owner = shown.owner; state = shown.dir }

-- what a slice shows of a line
abbrev pub text_of_line : LineAddr → LineView → List ℕ
text_of_line line shown = text_of_state line (entry_in shown) shown.copies.items
