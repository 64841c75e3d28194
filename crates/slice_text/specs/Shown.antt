-- All that isn't at rest in a slice, as text: what the command `show` prints.
use Rattle.std.specs.Prelude.{◌≡◌, ℕ, ◌+◌, ◌*◌, ◌==◌, ◌&&◌, Bool, true, false, if◌then◌else◌, List, [], ◌∷◌, ◌++◌}
use Rattle.std.specs.Prelude.{codes, decimal, length, map, slice_get, Option, Some, None, All}
use Rattle.std.specs.List.{flat_map, list_all, range_with_len}
use Rattle.address_map.specs.Locator.{local_at}
use Rattle.address_map.specs.declared.address.CoreId.{CoreId}
use Rattle.address_map.specs.declared.address.LineAddr.{LineAddr}
use Rattle.address_map.specs.declared.address.Local.{Local}
use Rattle.address_map.specs.declared.address.Offset.{Offset}
use Rattle.address_map.specs.declared.address.WordAddr.{WordAddr}
use Rattle.address_map.specs.declared.config.Config.{Config}
use Rattle.address_map.specs.declared.request.Op.{Op}
use Rattle.cache_table.specs.Name.{name_of as name_of_copy}
use Rattle.cache_table.specs.declared.state.CopyState.{CopyState}
use Rattle.directory_table.specs.declared.state.DirState.{DirState}
use Rattle.directory_table.specs.declared.state.DirState.TheVariants as dir_states
use Rattle.slice_core.specs.Facts.{copy_at, targets_at}
use Rattle.slice_core_cache.specs.Copy.{is_gone}
use Rattle.slice_core_cache.specs.CoreCache.{state_of, tag_at}
use Rattle.slice_core_cache.specs.declared.copy.CacheCopy.{CacheCopy}
use Rattle.slice_core_cache.specs.declared.tags.TagState.{TagState}
use Rattle.slice_core_cache.specs.declared.tags.TagState.TheVariants as tag_states
use Rattle.slice_core_spec.specs.Parts.{PartsView, ring_lines}
use Rattle.slice_core_spec.specs.View.{View, entry_at, cache_at}
use Rattle.slice_text.specs.Line.{text_of_state, text_of_words}
use Rattle.slice_text.specs.Performed.{text_of_op}
use Rattle.target_list.specs.declared.target.Target.{Target}

-- ---- a core's copy of a line, and what waits for it

-- how many acknowledgements have come, of those that its data named, if there are any
abbrev pub text_of_acks : CacheCopy → List ℕ
text_of_acks copy =
    if (copy.counted == 0) && (copy.wants == 0) then []
    else codes " acks " ++ decimal copy.counted ++ codes " of " ++ decimal copy.wants

-- whose copy it is, of which line, and its state
abbrev pub text_of_name : CoreId → LineAddr → CopyState → List ℕ
text_of_name core line state =
    codes "core " ++ decimal core.0 ++ codes " line " ++ decimal line.0 ++ codes " " ++ name_of_copy state

-- a copy with its block
abbrev pub text_of_held : CoreId → LineAddr → CacheCopy → List ℕ
text_of_held core line copy =
    text_of_name core line copy.state
    ++ (text_of_acks copy ++ (codes " block" ++ (text_of_words copy.block.words ++ codes "\n")))

-- the word at a place of a line
abbrev pub word_in : LineAddr → Offset → WordAddr
word_in line offset = record { 0 = 8 * line.0 + offset.0 }

-- an access that waits: its tag, and its request
abbrev pub text_of_access : CoreId → ℕ → WordAddr → Op → List ℕ
text_of_access core tag word op =
    codes "core " ++ decimal core.0 ++ codes " tag " ++ decimal tag ++ codes " awaits " ++ text_of_op word op

-- which of the core's requests it is, and how long the log was when it was accepted
abbrev pub text_of_order : ℕ → ℕ → List ℕ
text_of_order seq since = codes " seq " ++ decimal seq ++ codes " since " ++ decimal since ++ codes "\n"

abbrev pub text_of_target : CoreId → LineAddr → Target → List ℕ
text_of_target core line target =
    text_of_access core target.tag (word_in line target.offset) target.op ++ text_of_order target.seq target.since

abbrev pub text_of_targets : CoreId → LineAddr → List Target → List ℕ
text_of_targets core line targets = flat_map (text_of_target core line) targets

-- a copy that exists, with what waits for it
abbrev pub text_of_copy : CoreId → LineAddr → Option CacheCopy → List Target → List ℕ
text_of_copy core line None targets = []
text_of_copy core line (Some copy) targets =
    if is_gone copy.state then [] else text_of_held core line copy ++ text_of_targets core line targets

abbrev pub text_of_core : View → LineAddr → CoreId → List ℕ
text_of_core v line core =
    let local : Option Local = local_at v.lines line.0 in
    text_of_copy core line (copy_at v core local) (targets_at v core local)

-- ---- a line

abbrev pub is_idle : DirState → Bool
is_idle dir_states.I = true
is_idle _ = false

-- a line is at rest if no core has a copy of it, and the directory waits for none
abbrev pub rests : View → Local → Bool
rests v local = is_idle (entry_at v local).state && list_all is_gone (map (λ cache. state_of cache local) v.caches)

-- each core's copy
abbrev pub text_of_cores_of : View → LineAddr → List ℕ
text_of_cores_of v line =
    flat_map (λ core. text_of_core v line (record { 0 = core })) (range_with_len 0 (length v.caches))

-- a line that isn't at rest: the directory's entry, and then each core's copy
abbrev pub text_of_place : View → LineAddr → Option Local → List ℕ
text_of_place v line None = []
text_of_place v line (Some local) =
    if rests v local then []
    else text_of_state line (entry_at v local) (map (λ cache. state_of cache local) v.caches) ++ text_of_cores_of v line

-- the same for a line of the memory; nothing for one of another slice
abbrev pub text_at_line : View → LineAddr → List ℕ
text_at_line v line = text_of_place v line (local_at v.lines line.0)

-- ---- a slice

-- a reply that wasn't delivered to its core: its number in the log
abbrev pub text_of_reply : CoreId → ℕ → TagState → List ℕ
text_of_reply core tag (tag_states.Performed number) =
    codes "core " ++ decimal core.0 ++ codes " tag " ++ decimal tag ++ codes " entry " ++ decimal number ++ codes "\n"
text_of_reply core tag state = []

abbrev pub text_under : View → CoreId → ℕ → List ℕ
text_under v core tag = text_of_reply core tag (tag_at (cache_at v core) tag)

abbrev pub text_of_replies_to : View → CoreId → List ℕ
text_of_replies_to v core = flat_map (text_under v core) (range_with_len 0 64)

abbrev pub text_of_replies : View → ℕ → List ℕ
text_of_replies v cores = flat_map (λ core. text_of_replies_to v (record { 0 = core })) (range_with_len 0 cores)

abbrev pub text_of_listed : Option LineAddr → List ℕ
text_of_listed None = []
text_of_listed (Some line) = codes " " ++ decimal line.0

abbrev pub text_at_place : PartsView → ℕ → List ℕ
text_at_place p place = text_of_listed (slice_get (ring_lines p) place)

-- the lines of the ring, the front first. It has none twice, and so no more than the memory.
abbrev pub text_of_ring : PartsView → ℕ → List ℕ
text_of_ring p lines = flat_map (text_at_place p) (range_with_len 0 lines)

abbrev pub text_of_lines : View → ℕ → List ℕ
text_of_lines v lines = flat_map (λ line. text_at_line v (record { 0 = line })) (range_with_len 0 lines)

abbrev pub text_of_number : ℕ → List ℕ
text_of_number number = codes "slice " ++ decimal number ++ codes " ring"

-- a slice of this number, in a machine with these numbers of cores and lines: its lines that aren't at rest, the
-- replies that weren't delivered to their cores, and its ring
abbrev pub text_of_slice : ℕ → ℕ → ℕ → PartsView → List ℕ
text_of_slice cores lines number p =
    text_of_lines p.view lines ++ (text_of_replies p.view cores
    ++ (text_of_number number ++ (text_of_ring p lines ++ codes "\n")))

-- slices from this number on
abbrev pub text_of_slices : ℕ → ℕ → ℕ → List PartsView → List ℕ
text_of_slices cores lines number [] = []
text_of_slices cores lines number (p ∷ more) =
    text_of_slice cores lines number p ++ text_of_slices cores lines (number + 1) more

-- all slices of a machine
abbrev pub text_of_machine : Config → List PartsView → List ℕ
text_of_machine config slices = text_of_slices config.cores config.lines 0 slices

-- each of the slices has this number of cores
abbrev pub HaveCores : ℕ → List PartsView → Type 0
HaveCores cores slices = All (λ p. length p.view.caches ≡ cores) slices
