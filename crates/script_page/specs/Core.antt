-- What a core has in a slice, as data.
use Rattle.std.specs.Prelude.{ℕ, nat_le, not, ◌||◌, Bool, if◌then◌else◌, List, [], ◌∷◌, ◌++◌, codes, decimal, length}
use Rattle.std.specs.Prelude.{Option, Some, None}
use Rattle.std.specs.List.{flat_map, range_with_len}
use Rattle.address_map.specs.declared.address.CoreId.{CoreId}
use Rattle.address_map.specs.declared.address.LineAddr.{LineAddr}
use Rattle.slice_json.specs.Copy.{text_of_copy_in}
use Rattle.litmus_text.specs.JsonList.{with_commas}
use Rattle.slice_json.specs.Json.{list_of_lines}
use Rattle.script_page.specs.declared.scope.Scope.{Scope}
use Rattle.slice_core_cache.specs.CoreCache.{tag_at}
use Rattle.slice_core_cache.specs.declared.tags.TagState.{TagState}
use Rattle.slice_core_cache.specs.declared.tags.TagState.TheVariants as tag_states
use Rattle.slice_core_spec.specs.View.{View, cache_at}
use Rattle.slice_core_exec.specs.CoreLines.{last_written_back, lines_of_core}
use Rattle.slice_core_exec.specs.declared.core_lines.CoreLines.TheVariants as core_lines

-- the slice doesn't know the core
abbrev pub lacks : View → CoreId → Bool
lacks v core = nat_le (length v.caches) core.0

-- the line that was last evicted for another, if an access of this core can have evicted one
abbrev pub victim_by : View → Bool → Option CoreId → Option LineAddr
victim_by v evicts None = None
victim_by v evicts (Some core) = if not evicts || lacks v core then None else last_written_back v core

abbrev pub victim_of : View → Scope → Option LineAddr
victim_of v scope = victim_by v scope.evicts scope.core

-- the lines in the set of a line, in the order that the policy keeps
abbrev pub set_lines : View → CoreId → Option LineAddr → List LineAddr
set_lines v core None = []
set_lines v core (Some line) = lines_of_core v core (core_lines.InSetOf line)

-- a reply that isn't handed out: its tag, and its number in the log
abbrev pub text_of_reply : ℕ → ℕ → List ℕ
text_of_reply tag number = codes "{\"tag\":" ++ decimal tag ++ codes ",\"number\":" ++ decimal number ++ codes "}"

-- .. if the tag names one
abbrev pub replies_under : ℕ → TagState → List (List ℕ)
replies_under tag (tag_states.Performed number) = text_of_reply tag number ∷ []
replies_under tag state = []

abbrev pub replies_of : View → CoreId → List ℕ → List (List ℕ)
replies_of v core tags = flat_map (λ tag. replies_under tag (tag_at (cache_at v core) tag)) tags

abbrev pub list_of_replies : View → CoreId → List ℕ
list_of_replies v core = with_commas (replies_of v core (range_with_len 0 64))

abbrev pub text_of_begin : CoreId → List ℕ
text_of_begin core = codes "{\"core\":" ++ decimal core.0 ++ codes ",\"copy\":"

-- A core with its copies of a line and of one evicted for it, the lines that it waits for in the order of their
-- registers, those being written back, those of one set in the policy's order, and the replies that aren't handed out.
abbrev pub text_with : View → CoreId → Option LineAddr → Option LineAddr → List LineAddr → List LineAddr
    → List LineAddr → List ℕ
text_with v core line victim registers leaving set =
    text_of_begin core ++ (text_of_copy_in v core line
    ++ (codes ",\"victim\":" ++ (text_of_copy_in v core victim
    ++ (codes ",\"registers\":" ++ (list_of_lines registers
    ++ (codes ",\"leaving\":" ++ (list_of_lines leaving
    ++ (codes ",\"set\":" ++ (list_of_lines set
    ++ (codes ",\"replies\":[" ++ (list_of_replies v core ++ codes "]}")))))))))))

abbrev pub text_of_core : View → CoreId → Scope → List ℕ
text_of_core v core scope =
    text_with v core scope.line (victim_of v scope) (lines_of_core v core core_lines.Waiting)
    (lines_of_core v core core_lines.Leaving) (set_lines v core scope.line)

abbrev pub text_by : View → Scope → Option CoreId → List ℕ
text_by v scope None = codes "null"
text_by v scope (Some core) = if lacks v core then codes "null" else text_of_core v core scope

-- the core of a scope, or null where there is none
abbrev pub text_of_core_in : View → Scope → List ℕ
text_of_core_in v scope = text_by v scope scope.core
