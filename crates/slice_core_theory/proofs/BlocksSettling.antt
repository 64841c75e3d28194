-- Data or an acknowledgement that a core takes leaves each line reached, blocks and all, and the log legal.
use Rattle.std.proofs.Common.{◌≡◌, ℕ, ◌+◌, ◌<◌, ◌≤◌, Bool, true, false, not, if◌then◌else◌, List, ◌++◌, length, Some}
use Rattle.std.proofs.Common.{None, IsSome, is_some, refl, sym, ap, ◌∙◌, subst, true≢false}
use Rattle.std.specs.Prelude.{All}
use Rattle.std.specs.List.{list_all}
use Rattle.address_map.specs.CoreSet.{has, without}
use Rattle.address_map.specs.Locator.{IsOfMachine}
use Rattle.address_map.specs.declared.address.CoreId.{CoreId}
use Rattle.address_map.specs.declared.address.Local.{Local}
use Rattle.address_map.specs.declared.block.Block.{Block}
use Rattle.cache_array.specs.Array.{held_at as array_at}
use Rattle.cache_table.specs.CopyState.{is_waiting}
use Rattle.cache_table.specs.Row.{row_of}
use Rattle.cache_table.specs.declared.row.CacheEvent.{CacheEvent}
use Rattle.cache_table.specs.declared.row.CacheEvent.TheVariants as cache_events
use Rattle.cache_table.specs.declared.row.CacheSends.{CacheSends}
use Rattle.cache_table.specs.declared.row.CacheSends.TheVariants as cache_sends
use Rattle.cache_table.specs.declared.row.Row.TheVariants as rows
use Rattle.cache_table.specs.declared.state.CopyState.{CopyState}
use Rattle.cache_table.specs.declared.state.CopyState.TheVariants as copy_states
use Rattle.directory_table.specs.declared.state.DirEntry.{DirEntry}
use Rattle.mshr_file.specs.Miss.{targets_of}
use Rattle.mshr_file.specs.declared.registers.Register.{Register}
use Rattle.slice_core_theory.proofs.BlocksFrame.{by_cache_with, reached_further}
use Rattle.slice_core_theory.proofs.BlocksPerforming.{AreAllowed, targets_legal}
use Rattle.slice_core_theory.proofs.BlocksPlaces.{blocks_moved}
use Rattle.slice_core_theory.proofs.BlocksSettled.{is_exclusive, performed_allowed, settled-block, settled_reached}
use Rattle.slice_core_theory.proofs.BlocksTurns.{turn_blocks}
use Rattle.slice_core_theory.proofs.Frame.{with_copy_at}
use Rattle.slice_core_theory.proofs.LogElsewhere.{log_keeps, targets_of_line}
use Rattle.slice_core_theory.proofs.Places.{with_core-length}
use Rattle.slice_core_theory.proofs.Rows.{if_go-counted}
use Rattle.slice_core_theory.proofs.Settling.{ack_comes, ack_found, ack_has_row, acknowledged_copy, data_comes}
use Rattle.slice_core_theory.proofs.Settling.{data_found, data_has_row, filled-counted, filled-state, filled-wants}
use Rattle.slice_core_theory.proofs.Settling.{filled_copy, in_array, waits-held}
use Rattle.slice_core_theory.proofs.SettlingLine.{count_stands, count_turn, data_at_hand, data_event, data_row_here}
use Rattle.slice_core_theory.proofs.SettlingLine.{fill_stands, fill_turn, settled-state}
use Rattle.slice_core_theory.specs.Blocks.{AreReachedWith, HasValues, LineReachedWith, block_of_data, has_block}
use Rattle.slice_core_theory.specs.Stands.{copies_at, named_by}
use Rattle.slice_log.specs.Log.{IsLegal, initially}
use Rattle.slice_log.specs.declared.entry.Entry.{Entry}
use Rattle.slice_core_spec.specs.Calls.{filled_by}
use Rattle.slice_core_spec.specs.Plan.{plan_of}
use Rattle.slice_core_spec.specs.Steps.{after_settling, asked_by}
use Rattle.slice_core_spec.specs.View.{View, IsShaped, channels_at, entry_at, first_word, cache_at}
use Rattle.protocol_coherence.proofs.Each.{each_state, each_state-at, if_go, if_go-at, implies-at, not-at}
use Rattle.protocol_coherence.proofs.ValueSteps.{without_blocks}
use Rattle.protocol_coherence.specs.Fit.{◌implies◌}
use Rattle.protocol_coherence.specs.LineSteps.{Reached}
use Rattle.protocol_coherence.specs.Values.{Blocks, block_after_row, performs}
use Rattle.slice_core_cache.proofs.Found.{changes-change, copy_of-after_change, copy_of-after_change_other}
use Rattle.slice_core_cache.proofs.Found.{copy_of-after_settle, copy_of-after_settle_other, copy_of-held}
use Rattle.slice_core_cache.proofs.Found.{kept-after_change}
use Rattle.slice_core_cache.specs.Kept.{IsKept, stands_in_array}
use Rattle.slice_core_cache.specs.Perform.{asks_to_write, entries_of, performed_in}
use Rattle.slice_core_cache.specs.CoreCache.{array_copy, copy_of, state_of}
use Rattle.slice_core_cache.specs.Steps.{copy_after_ack, after_change, after_settle, copy_after_settle, settled_copy}
use Rattle.slice_core_cache.specs.Targets.{IsPerformable}
use Rattle.slice_core_cache.specs.declared.copy.CacheCopy.{CacheCopy}
use Rattle.slice_queues.specs.Line.{CoreChannels, LineChannels, after_take, core_at}
use Rattle.slice_queues.specs.declared.channel.Channel.{Channel}
use Rattle.slice_queues.specs.declared.channel.Channel.TheVariants as channels
use Rattle.slice_queues.specs.declared.message.DataMessage.{DataMessage}
use Rattle.slice_queues.specs.declared.message.DataMessage.TheVariants as data_messages
use Rattle.target_list.specs.Target.{is_load}
use Rattle.target_list.specs.declared.target.Target.{Target}
use Rattle.slice_core_spec.specs.Plan.{ack_move, fill_move}

-- ---- rows

unfoldable unless_exclusive : CopyState → CacheSends → Bool
unless_exclusive next sent = not (is_exclusive next)

data_shares : (n k : ℕ) (state : CopyState) → if_go (row_of state (cache_events.Data n k)) unless_exclusive ≡ true
unfolding if_go unless_exclusive
data_shares n k copy_states.IM_AD = if_go-counted unless_exclusive k n copy_states.IM_A refl refl
data_shares n k copy_states.SM_AD = if_go-counted unless_exclusive k n copy_states.SM_A refl refl
data_shares n k _ = refl

write_owns : (state : CopyState) → if_go (row_of state (cache_events.DataE false)) unless_exclusive ≡ true
unfolding each_state if_go unless_exclusive
write_owns state = each_state-at (λ s. if_go (row_of s (cache_events.DataE false)) unless_exclusive) refl state

ack_shares : (n k : ℕ) (state : CopyState) → if_go (row_of state (cache_events.InvAck n k)) unless_exclusive ≡ true
unfolding if_go unless_exclusive
ack_shares n k copy_states.IM_A = if_go-counted unless_exclusive (k + 1) n copy_states.IM_A refl refl
ack_shares n k copy_states.SM_A = if_go-counted unless_exclusive (k + 1) n copy_states.SM_A refl refl
ack_shares n k _ = refl

not_exclusive : (event : CacheEvent) (state next : CopyState) (sent : CacheSends)
    → if_go (row_of state event) unless_exclusive ≡ true → row_of state event ≡ rows.Go next sent
    → is_exclusive next ≡ false
unfolding unless_exclusive
not_exclusive event state next sent tested row =
    not-at (is_exclusive next) (if_go-at (row_of state event) unless_exclusive next sent tested row)

-- Only where all its targets are loads do data make a copy the only clean one.
exclusive_loads : (counted : ℕ) (loads : Bool) (message : DataMessage) (state next : CopyState) (sent : CacheSends)
    → row_of state (data_event counted loads message) ≡ rows.Go next sent → is_exclusive next ≡ true → loads ≡ true
exclusive_loads counted loads (data_messages.Data block acks) state next sent row exclusive =
    absurd (true≢false (sym exclusive
    ∙ not_exclusive (cache_events.Data acks counted) state next sent (data_shares acks counted state) row))
exclusive_loads counted true (data_messages.DataE block) state next sent row exclusive = refl
exclusive_loads counted false (data_messages.DataE block) state next sent row exclusive =
    absurd (true≢false (sym exclusive
    ∙ not_exclusive (cache_events.DataE false) state next sent (write_owns state) row))

unfoldable keeps_block : CopyState → CopyState → CacheSends → Bool
keeps_block state next sent = has_block next implies has_block state

ack_keeps : (n k : ℕ) (state : CopyState) → if_go (row_of state (cache_events.InvAck n k)) (keeps_block state) ≡ true
unfolding if_go keeps_block
ack_keeps n k copy_states.IM_A = if_go-counted (keeps_block copy_states.IM_A) (k + 1) n copy_states.IM_A refl refl
ack_keeps n k copy_states.SM_A = if_go-counted (keeps_block copy_states.SM_A) (k + 1) n copy_states.SM_A refl refl
ack_keeps n k _ = refl

-- An acknowledgement brings no block.
had_block : (n k : ℕ) (state next : CopyState) (sent : CacheSends)
    → row_of state (cache_events.InvAck n k) ≡ rows.Go next sent → has_block next ≡ true → has_block state ≡ true
unfolding keeps_block
had_block n k state next sent row =
    implies-at (has_block next) (has_block state)
    (if_go-at (row_of state (cache_events.InvAck n k)) (keeps_block state) next sent (ack_keeps n k state) row)

-- ---- data

carried : (one other : Block) (message : DataMessage)
    → block_of_data one (Some message) ≡ block_of_data other (Some message)
carried one other (data_messages.Data block acks) = refl
carried one other (data_messages.DataE block) = refl

copied_data : (counted : ℕ) (loads : Bool) (message : DataMessage) (next : CopyState) (c : ℕ) (written : Block)
    (blocks : Blocks) → block_after_row (data_event counted loads message) next c written blocks ≡ blocks.arriving c
copied_data counted loads (data_messages.Data block acks) next c written blocks = refl
copied_data counted loads (data_messages.DataE block) next c written blocks = refl

newest_data : (counted : ℕ) (loads : Bool) (message : DataMessage) (next : CopyState) (written newest : Block)
    → (if performs (data_event counted loads message) next then written else newest) ≡ newest
newest_data counted loads (data_messages.Data block acks) next written newest = refl
newest_data counted loads (data_messages.DataE block) next written newest = refl

filled-carried : (copy : CacheCopy) (message : DataMessage) (next : CopyState)
    → block_of_data (filled_by copy (Some message) next).block (Some message)
    ≡ (filled_by copy (Some message) next).block
filled-carried copy (data_messages.Data block acks) next = refl
filled-carried copy (data_messages.DataE block) next = refl

-- ---- the line

module _ (exclusive : Bool) (cores : ℕ) (init : ℕ → ℕ) (log : List Entry) (first : ℕ) (entry : DirEntry)
    (queues : LineChannels) (copy : ℕ → CacheCopy) (core : CoreId) (some : 0 < cores) (most : cores ≤ 64)
    (size : length queues.cores ≡ cores) (within : core.0 < cores)
    (line : LineReachedWith exclusive cores init log first entry queues copy) where
  reached_here : Reached exclusive cores line.line
  reached_here = without_blocks exclusive cores line.line line.blocks line.newest line.reached

  there : core.0 < length queues.cores
  there = subst (λ n. core.0 < n) (sym size) within

  -- The core takes data: its copy has their block.
  filled_line : (loads : Bool) (message : DataMessage) → (core_at queues core.0).data ≡ Some message
      → (next : CopyState) (sent : CacheSends)
      → row_of (copy core.0).state (data_event (copy core.0).counted loads message) ≡ rows.Go next sent
      → (filled : CacheCopy) → filled.state ≡ next → filled.wants ≡ named_by message
      → filled.counted ≡ (copy core.0).counted → block_of_data filled.block (Some message) ≡ filled.block
      → LineReachedWith exclusive cores init log first entry (after_take queues (channels.Data core))
      (with_copy_at copy core.0 (settled_copy filled filled.block filled.state))
  filled_line loads message waits next sent row filled state wants counted carries =
      let event = data_event (copy core.0).counted loads message in
      let now = settled_copy filled filled.block filled.state in
      let here = line.blocks_stand.core core.0 within in
      let mail : CoreChannels = record (core_at queues core.0) { «data» = None } in
      let brought : filled.block ≡ line.blocks.arriving core.0 =
      sym carries ∙ carried filled.block (line.blocks.arriving core.0) message
      ∙ ap (block_of_data (line.blocks.arriving core.0)) (sym waits) ∙ here.in_data in
      reached_further exclusive cores init log first entry (after_take queues (channels.Data core))
      (with_copy_at copy core.0 now) line.line line.blocks line.newest line.reached
      (fill_turn exclusive cores entry queues copy line.line core some most reached_here line.stands size within loads
      message waits next sent row) line.newest
      (subst (HasValues init log first)
      (sym (newest_data (copy core.0).counted loads message next line.newest line.newest)) line.has_values)
      (fill_stands exclusive cores entry queues copy line.line core some most reached_here line.stands size within loads
      message waits next sent row filled filled.block state wants counted)
      (turn_blocks exclusive cores entry queues copy line.line line.blocks line.newest core.0 event next
      cache_sends.Nothing
      now mail within
      (data_at_hand exclusive cores entry queues copy line.line core some most reached_here line.stands size within
      loads message waits next sent row)
      (data_row_here exclusive cores entry queues copy line.line core some most reached_here line.stands size within
      loads message waits next sent row)
      there refl refl
      (record {
        in_copy = λ has. settled-block filled filled.block filled.state ∙ brought
            ∙ sym (copied_data (copy core.0).counted loads message next core.0 line.newest line.blocks);
        in_data = refl;
        in_put = here.in_put;
      }) line.blocks_stand)

  -- The core counts an acknowledgement: its copy has the block that it had.
  counted_line : (from : CoreId) → from.0 < cores → has (core_at queues core.0).acks from.0 ≡ true
      → (next : CopyState) (sent : CacheSends)
      → row_of (copy core.0).state (cache_events.InvAck (copy core.0).wants (copy core.0).counted) ≡ rows.Go next sent
      → LineReachedWith exclusive cores init log first entry (after_take queues (channels.Ack core from))
      (with_copy_at copy core.0 (settled_copy (copy_after_ack (copy core.0) next) (copy core.0).block next))
  counted_line from from_within waits next sent row =
      let came = copy_after_ack (copy core.0) next in
      let here = line.blocks_stand.core core.0 within in
      let mail : CoreChannels = record (core_at queues core.0) {
        acks = without (core_at queues core.0).acks from.0;
      } in
      reached_further exclusive cores init log first entry (after_take queues (channels.Ack core from))
      (with_copy_at copy core.0 (settled_copy came (copy core.0).block next)) line.line line.blocks line.newest
      line.reached
      (count_turn exclusive cores entry queues copy line.line core some most reached_here line.stands size within from
      from_within waits next sent row) line.newest line.has_values
      (count_stands exclusive cores entry queues copy line.line core some most reached_here line.stands size within from
      from_within waits next sent row (copy core.0).block)
      (record {
        core = blocks_moved cores queues copy line.blocks.copy line.blocks.arriving line.blocks.put core.0
            (settled_copy came (copy core.0).block next) mail there
            (record {
              in_copy = λ has. settled-block came (copy core.0).block next
                  ∙ here.in_copy (had_block (copy core.0).wants (copy core.0).counted (copy core.0).state next sent row
                  (ap has_block (sym (settled-state came (copy core.0).block next)) ∙ has));
              in_data = here.in_data;
              in_put = here.in_put;
            })
            line.blocks_stand.core;
        home = line.blocks_stand.home;
        mail = line.blocks_stand.mail;
      })

-- ---- the slice

module _ (v : View) (local : Local) (core : CoreId) (some : 0 < length v.caches) (most : length v.caches ≤ 64)
    (shaped : IsShaped v) (machine : IsOfMachine v.lines) (kept : IsKept (cache_at v core))
    (there : core.0 < length v.caches) (inside : local.0 < v.lines.lines)
    (performable : All IsPerformable (targets_of (cache_at v core).misses local.0)) (all : AreReachedWith v) where
  -- the line once a message of this channel is taken, with this copy at the core
  abbrev CameTo : Channel → CacheCopy → Type 0
  CameTo channel came =
      LineReachedWith v.exclusive (length v.caches) (initially v.init) v.log (first_word v local) (entry_at v local)
      (after_take (channels_at v local) channel)
      (with_copy_at (copies_at v local) core.0 (settled_copy came came.block came.state))

  abbrev waiting_targets : List Target
  waiting_targets = targets_of (cache_at v core).misses local.0

  -- A copy that waited and has come to its state settles as its line can.
  settling_keeps : (channel : Channel) (came : CacheCopy) (misses : List Register)
      → is_waiting (state_of (cache_at v core) local) ≡ true → stands_in_array came.state ≡ true
      → core.0 < length (after_take (channels_at v local) channel).cores
      → (is_exclusive came.state ≡ true → list_all is_load waiting_targets ≡ true) → CameTo channel came
      → AreReachedWith (after_settling v local core channel came misses)
  settling_keeps channel came misses waited stands channels_there loads line =
      let cache = cache_at v core in
      let held = waits-held cache local kept waited in
      let middle = after_change cache local came in
      let held_then : IsSome (array_at middle.array local) =
      ap is_some (changes-change cache local kept held came).in_array in
      let kept_then = kept-after_change cache local kept held came stands in
      let taken = performed_in came.state waiting_targets in
      let entries = entries_of core (first_word v local) came.block taken in
      let allowed = performed_allowed came.state waiting_targets performable loads in
      by_cache_with v local shaped inside all (v.log ++ entries)
      (λ other within apart block values. log_keeps v machine local other apart entries v.log
      (targets_of_line core (first_word v local) came.block came.state taken allowed) block values)
      (asked_by (asks_to_write came.state waiting_targets) (after_take (channels_at v local) channel) core) core
      (after_settle middle local (length v.log) misses) there
      (λ other within apart.
      copy_of-after_settle_other middle local kept_then held_then (length v.log) misses other apart
      ∙ copy_of-after_change_other cache local kept held came other apart)
      (subst (λ c. LineReachedWith v.exclusive (length v.caches) (initially v.init) (v.log ++ entries)
      (first_word v local) (entry_at v local)
      (asked_by (asks_to_write came.state waiting_targets) (after_take (channels_at v local) channel) core)
      (with_copy_at (copies_at v local) core.0 c))
      (sym (copy_of-after_settle middle local kept_then held_then (length v.log) misses
      ∙ ap (copy_after_settle waiting_targets) (copy_of-after_change cache local kept held came)))
      (settled_reached v.exclusive (length v.caches) (initially v.init) (first_word v local) (entry_at v local)
      (after_take (channels_at v local) channel) core some most there channels_there (copies_at v local) v.log came
      waiting_targets allowed line))

  settling_legal : (channel : Channel) (came : CacheCopy) (misses : List Register)
      → core.0 < length (after_take (channels_at v local) channel).cores
      → (is_exclusive came.state ≡ true → list_all is_load waiting_targets ≡ true) → CameTo channel came
      → IsLegal (initially v.init) v.log
      → IsLegal (initially v.init) (after_settling v local core channel came misses).log
  settling_legal channel came misses channels_there loads line legal =
      let taken = performed_in came.state waiting_targets in
      let now = settled_copy came came.block came.state in
      subst (λ b. IsLegal (initially v.init) (v.log ++ entries_of core (first_word v local) b taken))
      (settled-block came came.block came.state)
      (targets_legal v.exclusive (length v.caches) (initially v.init) (first_word v local) (entry_at v local)
      (after_take (channels_at v local) channel) core.0 some most there channels_there (copies_at v local) core taken
      v.log now
      (subst (λ s. AreAllowed s taken) (sym (settled-state came came.block came.state))
      (performed_allowed came.state waiting_targets performable loads)) line legal)

  -- ---- data

  module _ (way : ℕ) (next : CopyState) (is : plan_of v local (channels.Data core) ≡ fill_move way next) where
    abbrev filled_here : CacheCopy
    filled_here = filled_copy v local core some most shaped kept there inside way next is

    data_there : core.0 < length (after_take (channels_at v local) (channels.Data core)).cores
    data_there =
        subst (λ n. core.0 < n)
        (sym (with_core-length (channels_at v local) core.0 (record (core_at (channels_at v local) core.0) {
          «data» = None;
        }) ∙ shaped.cores local inside)) there

    data_loads : is_exclusive filled_here.state ≡ true → list_all is_load waiting_targets ≡ true
    data_loads exclusive =
        let found = data_found v local core some most shaped kept there inside way next is in
        let row = data_has_row v local core some most shaped kept there inside way next is in
        exclusive_loads (copy_of (cache_at v core) local).counted (list_all is_load waiting_targets) found.0
        (state_of (cache_at v core) local) next row.0 row.1
        (ap is_exclusive (sym (filled-state (array_copy (cache_at v core) local)
        (core_at (channels_at v local) core.0).data next)) ∙ exclusive)

    data_came : CameTo (channels.Data core) filled_here
    data_came =
        let held = array_copy (cache_at v core) local in
        let front = (core_at (channels_at v local) core.0).data in
        let found = data_found v local core some most shaped kept there inside way next is in
        let row = data_has_row v local core some most shaped kept there inside way next is in
        let same = in_array v local core some most shaped kept there inside way next is in
        filled_line v.exclusive (length v.caches) (initially v.init) v.log (first_word v local) (entry_at v local)
        (channels_at v local) (copies_at v local) core some most (shaped.cores local inside) there (all local inside)
        (list_all is_load waiting_targets) found.0 found.1 next row.0 row.1 filled_here (filled-state held front next)
        (ap (λ d. (filled_by held d next).wants) found.1 ∙ filled-wants held found.0 next)
        (filled-counted held front next ∙ sym (ap (λ (c : CacheCopy). c.counted) same))
        (subst (λ d. block_of_data (filled_by held d next).block (Some found.0) ≡ (filled_by held d next).block)
        (sym found.1) (filled-carried held found.0 next))

    -- A slice in which a core takes data keeps its lines reached, blocks and all.
    pub fill_keeps : (misses : List Register)
        → AreReachedWith (after_settling v local core (channels.Data core) filled_here misses)
    fill_keeps misses =
        let comes = data_comes v local core some most shaped kept there inside way next is in
        let same = filled-state (array_copy (cache_at v core) local) (core_at (channels_at v local) core.0).data next in
        settling_keeps (channels.Data core) filled_here misses comes.waited (ap stands_in_array same ∙ comes.stands)
        data_there data_loads data_came

    -- And a legal log legal.
    pub fill_legal : (misses : List Register) → IsLegal (initially v.init) v.log
        → IsLegal (initially v.init) (after_settling v local core (channels.Data core) filled_here misses).log
    fill_legal misses = settling_legal (channels.Data core) filled_here misses data_there data_loads data_came

  -- ---- acknowledgements

  module _ (from : CoreId) (way : ℕ) (next : CopyState)
      (is : plan_of v local (channels.Ack core from) ≡ ack_move way next) where
    abbrev acknowledged_here : CacheCopy
    acknowledged_here = acknowledged_copy v local core some most shaped kept there inside from way next is

    ack_there : core.0 < length (after_take (channels_at v local) (channels.Ack core from)).cores
    ack_there =
        subst (λ n. core.0 < n)
        (sym (with_core-length (channels_at v local) core.0 (record (core_at (channels_at v local) core.0) {
          acks = without (core_at (channels_at v local) core.0).acks from.0;
        }) ∙ shaped.cores local inside)) there

    ack_loads : is_exclusive acknowledged_here.state ≡ true → list_all is_load waiting_targets ≡ true
    ack_loads exclusive =
        let row = ack_has_row v local core some most shaped kept there inside from way next is in
        let copy = copy_of (cache_at v core) local in
        absurd (true≢false (sym exclusive
        ∙ not_exclusive (cache_events.InvAck copy.wants copy.counted) copy.state next row.0
        (ack_shares copy.wants copy.counted copy.state) row.1))

    ack_came : CameTo (channels.Ack core from) acknowledged_here
    ack_came =
        let row = ack_has_row v local core some most shaped kept there inside from way next is in
        let comes = ack_comes v local core some most shaped kept there inside from way next is in
        let waits = (ack_found v local core some most shaped kept there inside from way next is).0 in
        let line = all local inside in
        subst (λ c. CameTo (channels.Ack core from) (copy_after_ack c next))
        (copy_of-held (cache_at v core) local kept (waits-held (cache_at v core) local kept comes.waited))
        (counted_line v.exclusive (length v.caches) (initially v.init) v.log (first_word v local) (entry_at v local)
        (channels_at v local) (copies_at v local) core some most (shaped.cores local inside) there line from
        (line.stands.acks.senders core.0 from.0 waits) waits next row.0 row.1)

    -- A slice in which a core takes an acknowledgement keeps its lines reached, blocks and all.
    pub count_keeps : (misses : List Register)
        → AreReachedWith (after_settling v local core (channels.Ack core from) acknowledged_here misses)
    count_keeps misses =
        let comes = ack_comes v local core some most shaped kept there inside from way next is in
        settling_keeps (channels.Ack core from) acknowledged_here misses comes.waited comes.stands ack_there ack_loads
        ack_came

    -- And a legal log legal.
    pub count_legal : (misses : List Register) → IsLegal (initially v.init) v.log
        → IsLegal (initially v.init)
        (after_settling v local core (channels.Ack core from) acknowledged_here misses).log
    count_legal misses = settling_legal (channels.Ack core from) acknowledged_here misses ack_there ack_loads ack_came
