-- A core's copy of one line, wherever it is.
use Rattle.std.specs.Prelude.{ℕ, Bool, true, false, replicate, slice_index, slice_set, Option, Some, None}
use Rattle.address_map.specs.declared.block.Block.{Block}
use Rattle.address_map.specs.declared.request.Op.{Op}
use Rattle.cache_table.specs.declared.state.CopyState.{CopyState}
use Rattle.cache_table.specs.declared.state.CopyState.TheVariants as copy_states
use Rattle.slice_core_cache.specs.declared.copy.CacheCopy.{CacheCopy}
use Rattle.slice_log.specs.Op.{value_of}
use Rattle.writeback_buffer.specs.declared.pending.Leaving.{Leaving}

-- a block of zeros
abbrev pub zero_block : Block
zero_block = record { words = replicate 8 0 }

-- a line that isn't held
abbrev pub no_copy : CacheCopy
no_copy = record { block = zero_block; state = copy_states.I; wants = 0; counted = 0 }

-- a copy that has just come into this state by a miss: nothing is known of its block, and nothing was counted
abbrev pub missing_copy : CopyState → CacheCopy
missing_copy state = record no_copy { state = state }

-- a copy in the write-back buffer, which awaits no acknowledgement but its own
abbrev pub leaving_copy : Leaving → CacheCopy
leaving_copy leaving = record { block = leaving.block; state = leaving.state; wants = 0; counted = 0 }

-- a copy is in the array, or else in the write-back buffer, or nowhere
abbrev pub found_in : Option CacheCopy → Option Leaving → CacheCopy
found_in (Some copy) leaving = copy
found_in None (Some leaving) = leaving_copy leaving
found_in None None = no_copy

-- a word of a block
abbrev pub word_at : Block → ℕ → ℕ
word_at block offset = slice_index block.words offset

-- the block after the access
abbrev pub performed_on : Block → ℕ → Op → Block
performed_on block offset op = record { words = slice_set block.words offset (value_of op (word_at block offset)) }

-- nothing is left of a copy in this state
abbrev pub is_gone : CopyState → Bool
is_gone copy_states.I = true
is_gone _ = false

-- A line in this state may be evicted: it is held, and waits for nothing.
abbrev pub may_leave : CopyState → Bool
may_leave copy_states.S = true
may_leave copy_states.M = true
may_leave copy_states.E = true
may_leave _ = false
