-- A line that the machine reaches, blocks and all, continues by a core's own turn.
use Rattle.std.proofs.Common.{◌≡◌, ℕ, ◌<◌, ◌≤◌, Bool, true, if◌then◌else◌, List, length, Option, sym, subst}
use Rattle.address_map.specs.declared.block.Block.{Block}
use Rattle.cache_table.specs.CopyState.{is_waiting}
use Rattle.cache_table.specs.Row.{row_of}
use Rattle.cache_table.specs.declared.row.CacheEvent.{CacheEvent}
use Rattle.cache_table.specs.declared.row.CacheSends.{CacheSends}
use Rattle.cache_table.specs.declared.row.Row.TheVariants as rows
use Rattle.cache_table.specs.declared.state.CopyState.{CopyState}
use Rattle.directory_table.specs.declared.state.DirEntry.{DirEntry}
use Rattle.protocol_coherence.proofs.ValueSteps.{without_blocks}
use Rattle.protocol_coherence.specs.LineSteps.{asks_for}
use Rattle.protocol_coherence.specs.Values.{block_after_row, performs}
use Rattle.slice_core_cache.specs.declared.copy.CacheCopy.{CacheCopy}
use Rattle.slice_core_theory.proofs.BlocksFrame.{reached_further}
use Rattle.slice_core_theory.proofs.BlocksTurns.{own_blocks, own_newest, put_after}
use Rattle.slice_core_theory.proofs.Frame.{with_copy_at}
use Rattle.slice_core_theory.proofs.OwnTurns.{IsOwn, own_step}
use Rattle.slice_core_theory.specs.Blocks.{HasValues, LineReachedWith, has_block}
use Rattle.slice_core_theory.specs.Stands.{kind_of_request}
use Rattle.slice_core_spec.specs.Steps.{block_in}
use Rattle.slice_log.specs.declared.entry.Entry.{Entry}
use Rattle.slice_queues.specs.Line.{LineChannels, core_at, with_core}
use Rattle.slice_queues.specs.declared.message.RequestMessage.{RequestMessage}

-- Where the new copy and the request have their blocks, and what is newest then has what the log gives.
pub own_reached : (exclusive : Bool) (cores : ℕ) (init : ℕ → ℕ) (log more : List Entry) (first : ℕ) (entry : DirEntry)
    (channels : LineChannels) (copy : ℕ → CacheCopy) (c : ℕ) (event : CacheEvent) (next : CopyState)
    (sent : CacheSends) (now : CacheCopy) (message : Option RequestMessage) (written : Block)
    (old : LineReachedWith exclusive cores init log first entry channels copy)
    → cores ≤ 64 → c < cores → c < length channels.cores → IsOwn event
    → row_of (copy c).state event ≡ rows.Go next sent → now.state ≡ next
    → kind_of_request message ≡ asks_for sent (kind_of_request (core_at channels c).request)
    → (is_waiting next ≡ true → now.counted ≡ 0)
    → (has_block next ≡ true → now.block ≡ block_after_row event next c written old.blocks)
    → block_in (put_after sent (old.blocks.copy c) (old.blocks.put c)) message
    ≡ put_after sent (old.blocks.copy c) (old.blocks.put c)
    → HasValues init more first (if performs event next then written else old.newest)
    → LineReachedWith exclusive cores init more first entry
    (with_core channels c (record (core_at channels c) { request = message })) (with_copy_at copy c now)
own_reached exclusive cores init log more first entry channels copy c event next sent now message written old most
    below there own row state asked fresh in_copy in_put values =
    let reached = without_blocks exclusive cores old.line old.blocks old.newest old.reached in
    let step = own_step exclusive cores entry channels copy c event next sent now message old.line most below there own
    row state asked fresh reached old.stands in
    reached_further exclusive cores init more first entry
    (with_core channels c (record (core_at channels c) { request = message })) (with_copy_at copy c now) old.line
    old.blocks old.newest old.reached step.0 written
    (subst (HasValues init more first)
    (sym (own_newest exclusive cores entry channels copy c event next sent now message old.line most below there own row
    state asked fresh reached old.stands old.newest written)) values)
    step.1
    (own_blocks exclusive cores entry channels copy c event next sent now message old.line most below there own row
    state asked fresh reached old.stands old.blocks written in_copy in_put old.blocks_stand)
