-- Data or an acknowledgement that a core takes are a step of its line. Where a write is left after the loads that the
-- data allow, the right to write is asked for by another.
use Rattle.std.proofs.Common.{◌≡◌, ℕ, ◌<◌, ◌≤◌, ◌&&◌, Bool, true, false, not, if◌then◌else◌, List, ◌++◌, length, Option}
use Rattle.std.proofs.Common.{Some, None, IfSome, IsSome, is_some, refl, sym, ap, ◌∙◌, subst, true≢false}
use Rattle.std.specs.List.{list_all}
use Rattle.std.proofs.lemmas.Bool.{and_from}
use Rattle.address_map.specs.CoreSet.{has, without}
use Rattle.address_map.specs.declared.address.CoreId.{CoreId}
use Rattle.address_map.specs.declared.address.Local.{Local}
use Rattle.address_map.specs.declared.block.Block.{Block}
use Rattle.cache_array.specs.Array.{held_at as array_at}
use Rattle.cache_table.specs.CopyState.{is_leaving, is_waiting}
use Rattle.cache_table.specs.Row.{row_of}
use Rattle.cache_table.specs.declared.row.CacheEvent.TheVariants as cache_events
use Rattle.cache_table.specs.declared.row.CacheEvent.{CacheEvent}
use Rattle.cache_table.specs.declared.row.CacheSends.TheVariants as cache_sends
use Rattle.cache_table.specs.declared.row.CacheSends.{CacheSends}
use Rattle.cache_table.specs.declared.row.Row.TheVariants as rows
use Rattle.cache_table.specs.declared.row.Row.{Row}
use Rattle.cache_table.specs.declared.state.CopyState.{CopyState}
use Rattle.mshr_file.specs.Miss.{targets_of}
use Rattle.mshr_file.specs.declared.registers.Register.{Register}
use Rattle.slice_answer.specs.declared.answer.Cell.TheVariants as cells
use Rattle.slice_core_theory.proofs.Frame.{by_cache, with_copy_at}
use Rattle.slice_core_theory.proofs.OwnTurns.{StepStands}
use Rattle.slice_core_theory.proofs.Places.{with_core-length}
use Rattle.slice_core_theory.proofs.Rows.{IsTaken, ack-taken}
use Rattle.slice_core_theory.proofs.SettlingLine.{count_stands, count_turn, data_event, data_row-taken, fill_stands}
use Rattle.slice_core_theory.proofs.SettlingLine.{fill_turn, settles}
use Rattle.slice_core_theory.specs.Stands.{AreReached, LineStands, Stands, copies_at, named_by}
use Rattle.slice_core_spec.specs.Calls.{filled_by}
use Rattle.slice_core_spec.specs.Plan.{acknowledge_at, asks, by_ack_row, by_data_row, data_by, event_of_data, fill_at}
use Rattle.slice_core_spec.specs.Plan.{plan_of, stands_at}
use Rattle.slice_core_spec.specs.Steps.{after_settling, asked_by}
use Rattle.slice_core_spec.specs.View.{View, IsShaped, channels_at, entry_at, first_word, cache_at}
use Rattle.protocol_coherence.proofs.Each.{each_state, each_state-at, not-at}
use Rattle.protocol_coherence.specs.Line.{Line}
use Rattle.protocol_coherence.specs.LineSteps.{Reached, after, after_ack, further}
use Rattle.slice_core_cache.proofs.Found.{changes-change, copy_of-after_change, copy_of-after_change_other}
use Rattle.slice_core_cache.proofs.Found.{copy_of-after_settle, copy_of-after_settle_other, copy_of-held}
use Rattle.slice_core_cache.proofs.Found.{kept-after_change}
use Rattle.slice_core_cache.specs.Copy.{found_in}
use Rattle.slice_core_cache.specs.Kept.{IsKept, stands_in_array}
use Rattle.slice_core_cache.specs.Perform.{asks_to_write, block_after, entries_of, performed_in}
use Rattle.slice_core_cache.specs.CoreCache.{CoreCacheView, array_copy, copy_of, state_of}
use Rattle.slice_core_cache.specs.Steps.{copy_after_ack, after_change, after_settle, copy_after_settle, settled_copy}
use Rattle.slice_core_cache.specs.declared.copy.CacheCopy.{CacheCopy}
use Rattle.slice_queues.specs.Line.{after_take, core_at}
use Rattle.slice_queues.specs.declared.channel.Channel.TheVariants as channels
use Rattle.slice_queues.specs.declared.channel.Channel.{Channel}
use Rattle.slice_queues.specs.declared.message.DataMessage.TheVariants as data_messages
use Rattle.slice_queues.specs.declared.message.DataMessage.{DataMessage}
use Rattle.target_list.specs.Target.{is_load}
use Rattle.writeback_buffer.specs.Buffer.{held_at as buffer_at}
use Rattle.writeback_buffer.specs.declared.pending.Leaving.{Leaving}
use Rattle.slice_answer.specs.declared.answer.Delivery.TheVariants as deliveries
use Rattle.slice_answer.specs.declared.answer.Delivery.{Delivery}
use Rattle.slice_core_spec.specs.Plan.{ack_move, fill_move}
use Rattle.slice_core_spec.specs.declared.transition.Transition.TheVariants as transitions
use Rattle.slice_core_spec.specs.declared.transition.Transition.{Transition}

-- ---- the plan

-- the state to which what is planned takes the copy
next_in : CopyState → Delivery Transition → CopyState
next_in state (deliveries.Moved (transitions.Fill step)) = step.next
next_in state (deliveries.Moved (transitions.Acknowledge step)) = step.next
next_in state _ = state

module _ (v : View) (local : Local) (core : CoreId) (way : ℕ) (next : CopyState) where
  -- the row by which a message of the core goes on
  abbrev pub HasRow : CacheEvent → Type 0
  HasRow event = (sent : CacheSends) × (row_of (state_of (cache_at v core) local) event ≡ rows.Go next sent)

  data_row_planned : (row : Row) → by_data_row v local core row ≡ fill_move way next
      → (sent : CacheSends) × (row ≡ rows.Go next sent)
  unfolding next_in
  data_row_planned rows.NoEntry is = absurd (cc is)
  data_row_planned rows.Blocked is = absurd (cc is)
  data_row_planned (rows.Go n s) is = by (asks v local core) (stands_at v local core) is
    where
      by : (early : Bool) (stands : Option ℕ)
          → (if early then deliveries.Broken cells.Early else fill_at stands n) ≡ fill_move way next
          → (sent : CacheSends) × (rows.Go n s ≡ rows.Go next sent)
      by true stands is = absurd (cc is)
      by false None is = absurd (cc is)
      by false (Some at) is = (s, ap (λ state. rows.Go state s) (ap (next_in n) is))

  data_planned : (front : Option DataMessage) → (core_at (channels_at v local) core.0).data ≡ front
      → data_by v local core front ≡ fill_move way next
      → (message : DataMessage) × ((core_at (channels_at v local) core.0).data ≡ Some message)
      × HasRow (event_of_data v local core message)
  data_planned None waits is = absurd (cc is)
  data_planned (Some message) waits is =
      let row = row_of (state_of (cache_at v core) local) (event_of_data v local core message) in
      (message, waits, data_row_planned row is)

  ack_row_planned : (row : Row) → by_ack_row v local core row ≡ ack_move way next
      → (sent : CacheSends) × (row ≡ rows.Go next sent)
  unfolding next_in
  ack_row_planned rows.NoEntry is = absurd (cc is)
  ack_row_planned rows.Blocked is = absurd (cc is)
  ack_row_planned (rows.Go n s) is = by (stands_at v local core) is
    where
      by : (stands : Option ℕ) → acknowledge_at stands n ≡ ack_move way next
          → (sent : CacheSends) × (rows.Go n s ≡ rows.Go next sent)
      by None is = absurd (cc is)
      by (Some at) is = (s, ap (λ state. rows.Go state s) (ap (next_in n) is))

  abbrev pub ack_event : CacheEvent
  ack_event = cache_events.InvAck (copy_of (cache_at v core) local).wants (copy_of (cache_at v core) local).counted

  ack_planned : (from : CoreId) (waits : Bool) → has (core_at (channels_at v local) core.0).acks from.0 ≡ waits
      → (if waits then by_ack_row v local core (row_of (state_of (cache_at v core) local) ack_event) else
      deliveries.Nothing)
      ≡ ack_move way next
      → (has (core_at (channels_at v local) core.0).acks from.0 ≡ true) × HasRow ack_event
  ack_planned from false waits is = absurd (cc is)
  ack_planned from true waits is =
      (waits, ack_row_planned (row_of (state_of (cache_at v core) local) ack_event) is)

-- the data that fill a copy say what it wants, and leave what it has counted
pub filled-state : (copy : CacheCopy) (message : Option DataMessage) (next : CopyState)
    → (filled_by copy message next).state ≡ next
filled-state copy None next = refl
filled-state copy (Some (data_messages.Data block acks)) next = refl
filled-state copy (Some (data_messages.DataE block)) next = refl

pub filled-counted : (copy : CacheCopy) (message : Option DataMessage) (next : CopyState)
    → (filled_by copy message next).counted ≡ copy.counted
filled-counted copy None next = refl
filled-counted copy (Some (data_messages.Data block acks)) next = refl
filled-counted copy (Some (data_messages.DataE block)) next = refl

pub filled-wants : (copy : CacheCopy) (message : DataMessage) (next : CopyState)
    → (filled_by copy (Some message) next).wants ≡ named_by message
filled-wants copy (data_messages.Data block acks) next = refl
filled-wants copy (data_messages.DataE block) next = refl

-- ---- the slice

leaves-still : (state : CopyState) → is_leaving state ≡ true → (is_leaving state && is_waiting state) ≡ false
unfolding each_state
leaves-still state leaves =
    not-at _ (each_state-at (λ s. not (is_leaving s && is_waiting s)) refl state)

-- A copy that waits is in the array.
pub waits-held : (cache : CoreCacheView) (local : Local) → IsKept cache → is_waiting (state_of cache local) ≡ true
    → IsSome (array_at cache.array local)
waits-held cache local kept =
    by (array_at cache.array local) (buffer_at cache.buffer.write_backs local.0) (kept.leaving local)
  where
    by : (copy : Option CacheCopy) (leaving : Option Leaving) → IfSome leaving (λ l. is_leaving l.state ≡ true)
        → is_waiting (found_in copy leaving).state ≡ true → IsSome copy
    by (Some copy) leaving leaves waits = refl
    by None (Some leaving) leaves waits =
        absurd (true≢false (sym (and_from (is_leaving leaving.state) (is_waiting leaving.state) leaves waits)
        ∙ leaves-still leaving.state leaves))
    by None None leaves waits = absurd (true≢false (sym waits))

module _ (v : View) (local : Local) (core : CoreId) (some : 0 < length v.caches) (most : length v.caches ≤ 64)
    (shaped : IsShaped v) (kept : IsKept (cache_at v core)) (there : core.0 < length v.caches)
    (inside : local.0 < v.lines.lines) where
  -- the line of the slice after a message of this channel, with this copy at the core
  abbrev CameTo : Channel → CacheCopy → Line → Type 0
  CameTo channel now line =
      StepStands v.exclusive (length v.caches) (entry_at v local) (after_take (channels_at v local) channel)
      (with_copy_at (copies_at v local) core.0 now) line

  -- A copy that waited and has come to its state settles as its line can.
  settling_reached : (channel : Channel) (came : CacheCopy) (misses : List Register)
      → is_waiting (state_of (cache_at v core) local) ≡ true → stands_in_array came.state ≡ true
      → length (after_take (channels_at v local) channel).cores ≡ length v.caches
      → ((block : Block) (line : Line) → Reached v.exclusive (length v.caches) line → Stands v local line
      → CameTo channel (settled_copy came block came.state) line)
      → AreReached v → AreReached (after_settling v local core channel came misses)
  settling_reached channel came misses waited stands size comes all =
      let cache = cache_at v core in
      let targets = targets_of cache.misses local.0 in
      let block = block_after came.block (performed_in came.state targets) in
      let held = waits-held cache local kept waited in
      let middle = after_change cache local came in
      let held_then : IsSome (array_at middle.array local) =
      ap is_some (changes-change cache local kept held came).in_array in
      let kept_then = kept-after_change cache local kept held came stands in
      let before = all local inside in
      let step = comes block before.0 before.1 before.2 in
      let now = settles v.exclusive (length v.caches) (entry_at v local) (after_take (channels_at v local) channel)
      (copies_at v local) core came block targets some most size there
      (after step.0, further before.1 step.0, step.1) in
      by_cache v local shaped inside all
      (asked_by (asks_to_write came.state targets) (after_take (channels_at v local) channel) core) core
      (after_settle middle local (length v.log) misses)
      (v.log ++ entries_of core (first_word v local) came.block (performed_in came.state targets)) there
      (λ other within apart.
      copy_of-after_settle_other middle local kept_then held_then (length v.log) misses other apart
      ∙ copy_of-after_change_other cache local kept held came other apart)
      now.0 now.1
      (subst (λ c. LineStands (length v.caches) (entry_at v local)
      (asked_by (asks_to_write came.state targets) (after_take (channels_at v local) channel) core)
      (with_copy_at (copies_at v local) core.0 c) now.0)
      (sym (copy_of-after_settle middle local kept_then held_then (length v.log) misses
      ∙ ap (copy_after_settle targets) (copy_of-after_change cache local kept held came)))
      now.2)

  -- ---- data

  module _ (way : ℕ) (next : CopyState) (is : plan_of v local (channels.Data core) ≡ fill_move way next) where
    abbrev pub filled_copy : CacheCopy
    filled_copy =
        filled_by (array_copy (cache_at v core) local) (core_at (channels_at v local) core.0).data next

    pub data_found : (message : DataMessage) × ((core_at (channels_at v local) core.0).data ≡ Some message)
        × HasRow v local core way next (event_of_data v local core message)
    data_found = data_planned v local core way next (core_at (channels_at v local) core.0).data refl is

    abbrev pub loads_alone : Bool
    loads_alone = list_all is_load (targets_of (cache_at v core).misses local.0)

    abbrev pub IsRow : DataMessage → CacheSends → Type 0
    IsRow message sent =
        row_of (state_of (cache_at v core) local)
        (data_event (copy_of (cache_at v core) local).counted loads_alone message) ≡ rows.Go next sent

    pub data_has_row : (sent : CacheSends) × IsRow data_found.0 sent
    data_has_row = by data_found.0 data_found.2
      where
        by : (message : DataMessage) → HasRow v local core way next (event_of_data v local core message)
            → (sent : CacheSends) × IsRow message sent
        by (data_messages.Data block acks) row = row
        by (data_messages.DataE block) row = row

    pub data_comes : IsTaken (state_of (cache_at v core) local) next data_has_row.0
    data_comes =
        data_row-taken (copy_of (cache_at v core) local) loads_alone data_found.0 next data_has_row.0 data_has_row.1

    pub in_array : copy_of (cache_at v core) local ≡ array_copy (cache_at v core) local
    in_array =
        copy_of-held (cache_at v core) local kept (waits-held (cache_at v core) local kept data_comes.waited)

    -- The machine's step for data that a core takes, whichever targets the copy has performed by then.
    pub fill_stepped : (block : Block) (line : Line) → Reached v.exclusive (length v.caches) line → Stands v local line
        → CameTo (channels.Data core) (settled_copy filled_copy block filled_copy.state) line
    fill_stepped block line reached stands =
        let held = array_copy (cache_at v core) local in
        let front = (core_at (channels_at v local) core.0).data in (
          fill_turn v.exclusive (length v.caches) (entry_at v local) (channels_at v local) (copies_at v local) line core
              some most reached stands (shaped.cores local inside) there loads_alone data_found.0 data_found.1 next
              data_has_row.0 data_has_row.1,
          fill_stands v.exclusive (length v.caches) (entry_at v local) (channels_at v local) (copies_at v local) line
              core some most reached stands (shaped.cores local inside) there loads_alone data_found.0 data_found.1 next
              data_has_row.0 data_has_row.1 filled_copy block (filled-state held front next)
              (ap (λ d. (filled_by held d next).wants) data_found.1 ∙ filled-wants held data_found.0 next)
              (filled-counted held front next ∙ sym (ap (λ (c : CacheCopy). c.counted) in_array)),
        )

    -- A slice in which a core takes data continues as its lines can.
    pub fill_reached : (misses : List Register) → AreReached v
        → AreReached (after_settling v local core (channels.Data core) filled_copy misses)
    fill_reached misses =
        let front = (core_at (channels_at v local) core.0).data in
        let same = filled-state (array_copy (cache_at v core) local) front next in
        settling_reached (channels.Data core) filled_copy misses data_comes.waited
        (ap stands_in_array same ∙ data_comes.stands)
        (with_core-length (channels_at v local) core.0 (record (core_at (channels_at v local) core.0) { «data» = None })
        ∙ shaped.cores local inside) fill_stepped

  -- ---- acknowledgements

  module _ (from : CoreId) (way : ℕ) (next : CopyState)
      (is : plan_of v local (channels.Ack core from) ≡ ack_move way next) where
    abbrev pub acknowledged_copy : CacheCopy
    acknowledged_copy = copy_after_ack (array_copy (cache_at v core) local) next

    pub ack_found : (has (core_at (channels_at v local) core.0).acks from.0 ≡ true)
        × HasRow v local core way next (ack_event v local core way next)
    ack_found =
        ack_planned v local core way next from (has (core_at (channels_at v local) core.0).acks from.0) refl is

    pub ack_has_row : (sent : CacheSends)
        × (row_of (state_of (cache_at v core) local) (ack_event v local core way next) ≡ rows.Go next sent)
    ack_has_row = ack_found.1

    pub ack_comes : IsTaken (state_of (cache_at v core) local) next ack_has_row.0
    ack_comes =
        (ack-taken (copy_of (cache_at v core) local).wants (copy_of (cache_at v core) local).counted
        (state_of (cache_at v core) local) next ack_has_row.0 ack_has_row.1).0

    -- The machine's step for an acknowledgement that a core takes, whichever targets the copy has performed by then.
    pub count_stepped : (block : Block) (line : Line) → Reached v.exclusive (length v.caches) line → Stands v local line
        → CameTo (channels.Ack core from) (settled_copy acknowledged_copy block next) line
    count_stepped block line reached stands =
        let held = waits-held (cache_at v core) local kept ack_comes.waited in
        let waits = ack_found.0 in
        let within = stands.acks.senders core.0 from.0 waits in (
          count_turn v.exclusive (length v.caches) (entry_at v local) (channels_at v local) (copies_at v local) line
              core
              some most reached stands (shaped.cores local inside) there from within waits next ack_has_row.0
              ack_has_row.1,
          subst (λ c. LineStands (length v.caches) (entry_at v local) (after_take (channels_at v local)
              (channels.Ack core from))
              (with_copy_at (copies_at v local) core.0 (settled_copy (copy_after_ack c next) block next))
              (after_ack line core.0 from.0 next cache_sends.Nothing))
              (copy_of-held (cache_at v core) local kept held)
              (count_stands v.exclusive (length v.caches) (entry_at v local) (channels_at v local) (copies_at v local)
              line core some most reached stands (shaped.cores local inside) there from within waits next ack_has_row.0
              ack_has_row.1 block),
        )

    -- A slice in which a core takes an acknowledgement continues as its lines can.
    pub count_reached : (misses : List Register) → AreReached v
        → AreReached (after_settling v local core (channels.Ack core from) acknowledged_copy misses)
    count_reached misses =
        settling_reached (channels.Ack core from) acknowledged_copy misses ack_comes.waited ack_comes.stands
        (with_core-length (channels_at v local) core.0 (record (core_at (channels_at v local) core.0) {
          acks = without (core_at (channels_at v local) core.0).acks from.0;
        }) ∙ shaped.cores local inside) count_stepped
