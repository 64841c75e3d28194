-- What each step leaves of what a core has. A miss file orders its lines as it likes, so the misses that a step leaves
-- are given to it.
use Rattle.std.specs.Prelude.{◌≡◌, ℕ, ◌+◌, min, Bool, if◌then◌else◌, List, [], ◌∷◌, slice_set, Option, Some, None}
use Rattle.std.specs.Prelude.{is_some, unwrap_or}
use Rattle.address_map.specs.declared.address.Local.{Local}
use Rattle.address_map.specs.declared.address.Offset.{Offset}
use Rattle.address_map.specs.declared.block.Block.{Block}
use Rattle.address_map.specs.declared.config.PolicyKind.{PolicyKind}
use Rattle.address_map.specs.declared.config.PolicyKind.TheVariants as policy_kinds
use Rattle.address_map.specs.declared.request.Op.{Op}
use Rattle.address_map.specs.declared.request.Request.{Request}
use Rattle.cache_array.specs.Array.{ArrayView, held_at as array_at, slots_at, with_slots}
use Rattle.cache_array.specs.Policy.{moves_of}
use Rattle.cache_array.specs.Set.{after_insert, after_write, after_use, after_remove}
use Rattle.cache_table.specs.CopyState.{is_waiting}
use Rattle.cache_table.specs.Row.{row_of}
use Rattle.cache_table.specs.declared.row.CacheEvent.TheVariants as cache_events
use Rattle.cache_table.specs.declared.row.CacheSends.TheVariants as cache_sends
use Rattle.cache_table.specs.declared.row.Row.{Row}
use Rattle.cache_table.specs.declared.row.Row.TheVariants as rows
use Rattle.cache_table.specs.declared.state.CopyState.{CopyState}
use Rattle.mshr_file.specs.Miss.{targets_of}
use Rattle.mshr_file.specs.declared.registers.Register.{Register}
use Rattle.rand_xoshiro.specs.Xoshiro256.{plus_plus}
use Rattle.slice_core_cache.specs.Access.{victim_of}
use Rattle.slice_core_cache.specs.Copy.{performed_on, is_gone, missing_copy}
use Rattle.slice_core_cache.specs.Perform.{block_after, tags_after, performed_in, left_in, settled_state}
use Rattle.slice_core_cache.specs.CoreCache.{CoreCacheView, array_copy}
use Rattle.slice_core_cache.specs.Tags.{IsLeastReply}
use Rattle.slice_core_cache.specs.declared.copy.CacheCopy.{CacheCopy}
use Rattle.slice_core_cache.specs.declared.tags.TagState.TheVariants as tag_states
use Rattle.slice_queues.specs.declared.message.RequestMessage.{RequestMessage}
use Rattle.slice_queues.specs.declared.message.RequestMessage.TheVariants as request_messages
use Rattle.target_list.specs.declared.target.Target.{Target}
use Rattle.writeback_buffer.specs.Buffer.{with_line, with_state, without_line}
use Rattle.writeback_buffer.specs.declared.pending.Leaving.{Leaving}

-- the array with another copy of a line that it holds, in the same slot
abbrev pub with_copy : ArrayView CacheCopy PolicyKind → Local → CacheCopy → ArrayView CacheCopy PolicyKind
with_copy array local copy = with_slots array local (after_write (slots_at array local) local copy)

-- the array after a use of a line
abbrev pub array_after_use : ArrayView CacheCopy PolicyKind → Local → ArrayView CacheCopy PolicyKind
array_after_use array local = with_slots array local (after_use (moves_of array.policy) (slots_at array local) local)

-- the array with a new line, and without a line
abbrev pub with_line_in : ArrayView CacheCopy PolicyKind → Local → CacheCopy → ArrayView CacheCopy PolicyKind
with_line_in array local copy = with_slots array local (after_insert (slots_at array local) local copy)

abbrev pub without_line_in : ArrayView CacheCopy PolicyKind → Local → ArrayView CacheCopy PolicyKind
without_line_in array local = with_slots array local (after_remove (slots_at array local) local)

-- ---- accesses and evictions

-- an access was performed on the copy that the array holds, which went to the next state: a use of the line
abbrev pub after_hit : CoreCacheView → Local → ℕ → Op → CopyState → CoreCacheView
after_hit cache local offset op next =
    let copy = array_copy cache local in
    record cache {
      array =
          array_after_use
          (with_copy cache.array local (record copy { block = performed_on copy.block offset op; state = next })) local;
      accepted = cache.accepted + 1;
    }

-- the access as a target: the core's next request
abbrev pub target_of : CoreCacheView → Request → Offset → ℕ → Target
target_of cache request offset since =
    record { op = request.op; seq = cache.accepted; since = since; offset = offset; tag = request.tag }

-- the access is a target, and its tag is open
abbrev pub after_join : CoreCacheView → Request → List Register → CoreCacheView
after_join cache request misses =
    record cache {
      misses = misses;
      tags = slice_set cache.tags request.tag tag_states.Open;
      accepted =
          cache.accepted + 1;
    }

-- the array once a line's copy waits: it was there, or takes a free way
abbrev pub array_after_open : CoreCacheView → Local → Bool → CopyState → ArrayView CacheCopy PolicyKind
array_after_open cache local held next =
    if held then with_copy cache.array local (record (array_copy cache local) { state = next; wants = 0; counted = 0 })
    else with_line_in cache.array local (missing_copy next)

-- the access opened a miss register, and its copy waits
abbrev pub after_open : CoreCacheView → Local → Bool → CopyState → Request → List Register → CoreCacheView
after_open cache local held next request misses =
    record (after_join cache request misses) { array = array_after_open cache local held next }

-- the state to which a row of the table takes a copy, and its own where none does
abbrev pub next_by : CopyState → Row → CopyState
next_by state (rows.Go next sent) = next
next_by state _ = state

-- what an eviction sends by its row: the block goes along with PutM alone
abbrev pub put_by : Block → Row → RequestMessage
put_by block (rows.Go next cache_sends.PutM) = request_messages.PutM block
put_by block _ = request_messages.PutS

abbrev pub put_of : CacheCopy → RequestMessage
put_of copy = put_by copy.block (row_of copy.state cache_events.Eviction)

-- what an eviction makes of a copy
abbrev pub leaving_after_evict : CacheCopy → Leaving
leaving_after_evict copy =
    record { block = copy.block; state = next_by copy.state (row_of copy.state cache_events.Eviction) }

-- the line's copy leaves: it is in the write-back buffer now
abbrev pub after_evict : CoreCacheView → Local → CoreCacheView
after_evict cache local = record cache {
  array = without_line_in cache.array local;
  buffer = with_line cache.buffer local.0 (leaving_after_evict (array_copy cache local));
}

-- the word that chooses a victim, and the core once it is drawn: only a random policy draws one
abbrev pub drawn_by : PolicyKind → List ℕ → ℕ × List ℕ
drawn_by (policy_kinds.Random seed) generator = plus_plus generator
drawn_by _ generator = (0, generator)

abbrev pub drawn_word : CoreCacheView → ℕ
drawn_word cache = (drawn_by cache.array.policy cache.generator).0

abbrev pub after_draw : CoreCacheView → CoreCacheView
after_draw cache = record cache { generator = (drawn_by cache.array.policy cache.generator).1 }

-- the line that is evicted so that another of its set can come in
abbrev pub victim_for : CoreCacheView → Local → Local
victim_for cache local = unwrap_or (victim_of cache local (drawn_word cache)) local

-- a victim has left for the line
abbrev pub after_replace : CoreCacheView → Local → CoreCacheView
after_replace cache local = after_evict (after_draw cache) (victim_for cache local)

-- ---- messages

-- a copy in the array went to the next state, and is there no more where nothing is left of it
abbrev pub advanced_in_array : CoreCacheView → Local → CopyState → CoreCacheView
advanced_in_array cache local next =
    if is_gone next then record cache { array = without_line_in cache.array local }
    else record cache { array = with_copy cache.array local (record (array_copy cache local) { state = next }) }

-- a leaving copy went to the next state, and is there no more where nothing is left of it
abbrev pub advanced_in_buffer : CoreCacheView → Local → CopyState → CoreCacheView
advanced_in_buffer cache local next =
    if is_gone next then record cache { buffer = without_line cache.buffer local.0 }
    else record cache { buffer = with_state cache.buffer local.0 next }

-- the copy went to the next state, wherever it is
abbrev pub after_advance : CoreCacheView → Local → CopyState → CoreCacheView
after_advance cache local next =
    if is_some (array_at cache.array local) then advanced_in_array cache local next
    else advanced_in_buffer cache local next

-- the counts of a copy: they are reset once it waits no more
abbrev pub settled_copy : CacheCopy → Block → CopyState → CacheCopy
settled_copy copy block state =
    if is_waiting copy.state then record copy { block = block; state = state }
    else record { block = block; state = state; wants = 0; counted = 0 }

-- a use of the line, where targets were performed
abbrev pub used_by : List Target → ArrayView CacheCopy PolicyKind → Local → ArrayView CacheCopy PolicyKind
used_by [] array local = array
used_by (target ∷ targets) array local = array_after_use array local

-- the copy with the data that came, in the next state
abbrev pub copy_after_fill : CacheCopy → Block → ℕ → CopyState → CacheCopy
copy_after_fill copy block wants next = record copy { block = block; wants = wants; state = next }

-- one more acknowledgement was counted; the count stops at 255, more than there are cores
abbrev pub copy_after_ack : CacheCopy → CopyState → CacheCopy
copy_after_ack copy next = record copy { counted = min (copy.counted + 1) 255; state = next }

-- the copy that the array holds is another
abbrev pub after_change : CoreCacheView → Local → CacheCopy → CoreCacheView
after_change cache local copy = record cache { array = with_copy cache.array local copy }

-- a copy that has come to its state, once it has performed what it allows of these targets
abbrev pub copy_after_settle : List Target → CacheCopy → CacheCopy
copy_after_settle targets copy =
    settled_copy copy (block_after copy.block (performed_in copy.state targets))
    (settled_state copy.state (left_in copy.state targets))

-- The copy has come to its state, by data or by an acknowledgement: the targets that it allows are performed, their
-- entries being numbered from this one on, and the register keeps the others.
abbrev pub after_settle : CoreCacheView → Local → ℕ → List Register → CoreCacheView
after_settle cache local number misses =
    let copy = array_copy cache local in
    let targets = targets_of cache.misses local.0 in
    let taken = performed_in copy.state targets in
    record cache {
      array = used_by taken (with_copy cache.array local (copy_after_settle targets copy)) local;
      misses = misses;
      tags = tags_after cache.tags number taken;
    }

-- the tag's entry is handed out
abbrev pub after_hand : CoreCacheView → ℕ → CoreCacheView
after_hand cache tag = record cache { tags = slice_set cache.tags tag tag_states.Free }

-- The reply of least number is handed out, and its tag is free; or there is none, and nothing has changed.
abbrev pub AfterHand : CoreCacheView → Option ℕ → CoreCacheView → Type 0
AfterHand old None new = IsLeastReply old.tags None × (new ≡ old)
AfterHand old (Some number) new = (tag : ℕ) × IsLeastReply old.tags (Some (tag, number)) × (new ≡ after_hand old tag)
