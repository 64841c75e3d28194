-- A core's copy of a line as data, with the accesses that wait for it.
use Rattle.std.specs.Prelude.{ℕ, Bool, true, false, if◌then◌else◌, List, ◌++◌, codes, decimal, Option, Some, None}
use Rattle.address_map.specs.Locator.{local_at}
use Rattle.address_map.specs.declared.address.CoreId.{CoreId}
use Rattle.address_map.specs.declared.address.LineAddr.{LineAddr}
use Rattle.address_map.specs.declared.block.Block.{Block}
use Rattle.cache_table.specs.Name.{name_of}
use Rattle.cache_table.specs.declared.state.CopyState.{CopyState}
use Rattle.cache_table.specs.declared.state.CopyState.TheVariants as copy_states
use Rattle.slice_json.specs.Access.{list_of_targets}
use Rattle.slice_json.specs.Json.{text_of_block}
use Rattle.slice_core.specs.Facts.{copy_at, targets_at}
use Rattle.slice_core_cache.specs.declared.copy.CacheCopy.{CacheCopy}
use Rattle.slice_core_spec.specs.View.{View}
use Rattle.target_list.specs.declared.target.Target.{Target}

-- a copy in this state has a block: not before its data come, nor after they were passed to another core
abbrev pub has_block : CopyState → Bool
has_block copy_states.I = false
has_block copy_states.IS_D = false
has_block copy_states.IM_AD = false
has_block copy_states.II_A = false
has_block state = true

-- a core knows how many acknowledgements it awaits: not before the data that name them
abbrev pub is_told : CopyState → Bool
is_told copy_states.IM_AD = false
is_told copy_states.SM_AD = false
is_told state = true

abbrev pub block_of : CacheCopy → Option Block
block_of copy = if has_block copy.state then Some copy.block else None

-- the number of acknowledgements that it needs
abbrev pub text_of_needed : CacheCopy → List ℕ
text_of_needed copy =
    if is_told copy.state then codes "\"needed\":" ++ decimal copy.wants ++ codes ",\"block\":"
    else codes "\"needed\":null,\"block\":"

-- its core and line, its state, and the number of acknowledgements that it has got
abbrev pub text_of_head : CoreId → LineAddr → CacheCopy → List ℕ
text_of_head core line copy =
    codes "{\"core\":" ++ decimal core.0 ++ codes ",\"line\":" ++ decimal line.0 ++ codes ",\"state\":\""
    ++ name_of copy.state ++ codes "\",\"got\":" ++ decimal copy.counted ++ codes ","

-- a copy with its block and the accesses that wait for it, or null if there is none
abbrev pub text_of_held : CoreId → LineAddr → Option CacheCopy → List Target → List ℕ
text_of_held core line None targets = codes "null"
text_of_held core line (Some copy) targets =
    text_of_head core line copy
    ++ (text_of_needed copy
    ++ (text_of_block (block_of copy) ++ (codes ",\"targets\":" ++ (list_of_targets targets ++ codes "}"))))

abbrev pub text_of_copy : View → CoreId → LineAddr → List ℕ
text_of_copy v core line =
    let local = local_at v.lines line.0 in text_of_held core line (copy_at v core local) (targets_at v core local)

abbrev pub text_of_copy_in : View → CoreId → Option LineAddr → List ℕ
text_of_copy_in v core None = codes "null"
text_of_copy_in v core (Some line) = text_of_copy v core line
