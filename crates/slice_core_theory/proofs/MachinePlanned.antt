-- A plan that changes a core's copy is for a core that is there, and data and acknowledgements are for a line that its
-- array holds.
use Rattle.std.proofs.Common.{◌≡◌, ◌≢◌, ℕ, ◌<◌, ◌≤◌, Bool, true, false, if◌then◌else◌, cond, List, length, get_or}
use Rattle.std.proofs.Common.{Option, Some, None, IsSome, find, position, refl, sym, ap, ◌∙◌, ⊎_elim, arith}
use Rattle.std.specs.Prelude.{◌&&◌, is_some, nat_lt, not, slice_get}
use Rattle.std.specs.List.{position_or_len}
use Rattle.std.proofs.lemmas.Bool.{cases_lt, false≢true, ltb-true}
use Rattle.std.proofs.lemmas.List.{get_or_past}
use Rattle.std.proofs.lemmas.List.Folds.{find_at}
use Rattle.std.proofs.lemmas.Option.{slice_get-get_or}
use Rattle.address_map.proofs.CoreSets.{has-zero}
use Rattle.address_map.specs.CoreSet.{has}
use Rattle.address_map.specs.declared.address.CoreId.{CoreId}
use Rattle.address_map.specs.declared.address.Local.{Local}
use Rattle.cache_array.specs.Array.{held_at as array_at, slots_at}
use Rattle.cache_array.specs.Set.{holds}
use Rattle.cache_array.specs.declared.set.Slot.{Slot}
use Rattle.cache_table.specs.Row.{row_of}
use Rattle.cache_table.specs.declared.row.CacheSends.{CacheSends}
use Rattle.cache_table.specs.declared.row.CacheEvent.TheVariants as cache_events
use Rattle.cache_table.specs.declared.row.Row.{Row}
use Rattle.cache_table.specs.declared.row.Row.TheVariants as rows
use Rattle.cache_table.specs.declared.state.CopyState.{CopyState}
use Rattle.directory_table.specs.Row.{row_of as dir_row_of}
use Rattle.directory_table.specs.declared.row.DirEvent.TheVariants as dir_events
use Rattle.directory_table.specs.declared.row.DirRow.{DirRow}
use Rattle.directory_table.specs.declared.row.DirRow.TheVariants as dir_rows
use Rattle.slice_answer.specs.declared.answer.Cell.TheVariants as cells
use Rattle.slice_core_spec.specs.Calls.{core_of}
use Rattle.slice_core_spec.specs.Plan.{ack_plan, asks, by_ack_row, by_data_row, by_directory_row, by_forwarded_row}
use Rattle.slice_core_spec.specs.Plan.{by_home_row, data_by, data_plan, event_of_data, event_of_forwarded}
use Rattle.slice_core_spec.specs.Plan.{event_of_request, fill_at, acknowledge_at, forwarded_by, forwarded_plan}
use Rattle.slice_core_spec.specs.Plan.{home_plan, is_put_ack, plan_of, request_by, request_plan, requester_of}
use Rattle.slice_core_spec.specs.Plan.{stands_at}
use Rattle.slice_core_spec.specs.Sends.{cache_room, directory_room}
use Rattle.slice_core_spec.specs.View.{View, channels_at, entry_at, cache_at, IsShaped}
use Rattle.slice_core_cache.specs.Copy.{no_copy}
use Rattle.slice_core_cache.specs.CoreCache.{CoreCacheView, copy_of}
use Rattle.slice_core_cache.specs.declared.copy.CacheCopy.{CacheCopy}
use Rattle.slice_queues.specs.Line.{LineChannels, core_at, empty_line, no_messages}
use Rattle.slice_queues.specs.declared.channel.Channel.{Channel}
use Rattle.slice_queues.specs.declared.channel.Channel.TheVariants as channels
use Rattle.slice_queues.specs.declared.message.DataMessage.{DataMessage}
use Rattle.slice_queues.specs.declared.message.ForwardedMessage.{ForwardedMessage}
use Rattle.slice_queues.specs.declared.message.RequestMessage.{RequestMessage}
use Rattle.slice_answer.specs.declared.answer.Delivery.TheVariants as deliveries
use Rattle.slice_answer.specs.declared.answer.Delivery.{Delivery}
use Rattle.slice_core_spec.specs.Plan.{directory_move, forwarded_move}
use Rattle.slice_core_spec.specs.declared.transition.Transition.TheVariants as transitions
use Rattle.slice_core_spec.specs.declared.transition.Transition.{Transition}

-- ---- the core

-- the plan is for a core's own copy
abbrev pub is_for_copy : Delivery Transition → Bool
is_for_copy (deliveries.Moved (transitions.Forwarded step)) = true
is_for_copy (deliveries.Moved (transitions.Fill step)) = true
is_for_copy (deliveries.Moved (transitions.Acknowledge step)) = true
is_for_copy plan = false

home-for_none : (waits : Bool) (row : DirRow) → is_for_copy (if waits then by_home_row row else deliveries.Nothing) ≡ false
home-for_none true dir_rows.NoEntry = refl
home-for_none true dir_rows.Blocked = refl
home-for_none true (dir_rows.Go step) = refl
home-for_none false row = refl

module _ (v : View) (local : Local) (shaped : IsShaped v) where
  -- No line has channels for a core that isn't there.
  few-cores : length (channels_at v local).cores ≤ length v.caches
  few-cores =
      ⊎_elim (λ inside. let all = shaped.cores local inside in omega (arith, all))
      (λ past.
      let lines = shaped.lines in
      let none : length (channels_at v local).cores ≡ 0 =
      ap (λ (l : LineChannels). length l.cores)
      (get_or_past v.channels local.0 (empty_line 0) (omega (arith, past, lines)))
      in omega (arith, none))
      (cases_lt local.0 v.lines.lines)

  -- So nothing waits for it.
  pub nothing-past : (core : CoreId) → length v.caches ≤ core.0 → core_at (channels_at v local) core.0 ≡ no_messages
  nothing-past core past =
      let few = few-cores in
      get_or_past (channels_at v local).cores core.0 no_messages (omega (arith, past, few))

  there : (channel : Channel) (core : CoreId)
      → (core_at (channels_at v local) core.0 ≡ no_messages → is_for_copy (plan_of v local channel) ≡ false)
      → is_for_copy (plan_of v local channel) ≡ true → core.0 < length v.caches
  there channel core idle passes =
      ⊎_elim (λ inside. inside) (λ past. absurd (false≢true (sym (idle (nothing-past core past)) ∙ passes)))
      (cases_lt core.0 (length v.caches))

  pub planned-core : (channel : Channel) → is_for_copy (plan_of v local channel) ≡ true
      → (core_of channel).0 < length v.caches
  planned-core (channels.Req core) passes = there (channels.Req core) core (λ none. rw none refl) passes
  planned-core (channels.Fwd core) passes = there (channels.Fwd core) core (λ none. rw none refl) passes
  planned-core (channels.Data core) passes = there (channels.Data core) core (λ none. rw none refl) passes
  planned-core (channels.Ack to from) passes =
      there (channels.Ack to from) to (λ none. rw (none, has-zero from.0) refl) passes
  planned-core channels.Home passes =
      absurd (false≢true (sym (home-for_none (is_some (channels_at v local).home)
      (dir_row_of v.exclusive (entry_at v local) dir_events.DataHome)) ∙ passes))

-- ---- the line

-- where the plan finds the copy that it changes
abbrev pub way_in : Delivery Transition → Option ℕ
way_in (deliveries.Moved (transitions.Fill step)) = Some step.way
way_in (deliveries.Moved (transitions.Acknowledge step)) = Some step.way
way_in plan = None

None_apart : {A : Type 0} (x : A) → None ≢ Some x
None_apart x same = cc

module _ (v : View) (local : Local) where
  way-request : (core : CoreId) → way_in (request_plan v local core) ≡ None
  way-request core = by (core_at (channels_at v local) core.0).request
    where
      room : (b : Bool) (one other : Delivery Transition) → way_in one ≡ None → way_in other ≡ None
          → way_in (if b then one else other) ≡ None
      room true one other first second = first
      room false one other first second = second

      row : (r : DirRow) → way_in (by_directory_row (channels_at v local) core r) ≡ None
      row dir_rows.NoEntry = refl
      row dir_rows.Blocked = refl
      row (dir_rows.Go step) = room (directory_room (channels_at v local) core step.sends) (directory_move step)
          (deliveries.Broken cells.Full) refl refl

      by : (waits : Option RequestMessage) → way_in (request_by v local core waits) ≡ None
      by None = refl
      by (Some message) = row (dir_row_of v.exclusive (entry_at v local) (event_of_request core message))

  way-forwarded : (core : CoreId) → way_in (forwarded_plan v local core) ≡ None
  way-forwarded core = by (slice_get (core_at (channels_at v local) core.0).forwarded 0)
    where
      tests : (b c : Bool) (next : CopyState) (sent : CacheSends) (requester : CoreId)
          → way_in (if b then deliveries.Broken cells.Full else if c then deliveries.Broken cells.Early
          else forwarded_move next sent requester) ≡ None
      tests true c next sent requester = refl
      tests false true next sent requester = refl
      tests false false next sent requester = refl

      row : (message : ForwardedMessage) (r : Row) → way_in (by_forwarded_row v local core message r) ≡ None
      row message rows.NoEntry = refl
      row message rows.Blocked = refl
      row message (rows.Go next sent) =
          tests (not (cache_room (channels_at v local) core (requester_of core message) sent))
          (is_put_ack message && asks v local core) next sent (requester_of core message)

      by : (waits : Option ForwardedMessage) → way_in (forwarded_by v local core waits) ≡ None
      by None = refl
      by (Some message) = row message (row_of (copy_of (cache_at v core) local).state (event_of_forwarded message))

  way-data : (core : CoreId) (way : ℕ) → way_in (data_plan v local core) ≡ Some way
      → stands_at v local core ≡ Some way
  way-data core way = by (core_at (channels_at v local) core.0).data
    where
      filled : (stands : Option ℕ) (next : CopyState) → way_in (fill_at stands next) ≡ stands
      filled None next = refl
      filled (Some way) next = refl

      early : (b : Bool) (next : CopyState)
          → way_in (if b then deliveries.Broken cells.Early else fill_at (stands_at v local core) next) ≡ Some way
          → stands_at v local core ≡ Some way
      early true next found = absurd (None_apart way found)
      early false next found = sym (filled (stands_at v local core) next) ∙ found

      row : (r : Row) → way_in (by_data_row v local core r) ≡ Some way → stands_at v local core ≡ Some way
      row rows.NoEntry found = absurd (None_apart way found)
      row rows.Blocked found = absurd (None_apart way found)
      row (rows.Go next sent) found = early (asks v local core) next found

      by : (waits : Option DataMessage) → way_in (data_by v local core waits) ≡ Some way
          → stands_at v local core ≡ Some way
      by None found = absurd (None_apart way found)
      by (Some message) found =
          row (row_of (copy_of (cache_at v core) local).state (event_of_data v local core message)) found

  way-ack : (to from : CoreId) (way : ℕ) → way_in (ack_plan v local to from) ≡ Some way
      → stands_at v local to ≡ Some way
  way-ack to from way = by (has (core_at (channels_at v local) to.0).acks from.0)
      (row_of (copy_of (cache_at v to) local).state
      (cache_events.InvAck (copy_of (cache_at v to) local).wants (copy_of (cache_at v to) local).counted))
    where
      counted : (stands : Option ℕ) (next : CopyState) → way_in (acknowledge_at stands next) ≡ stands
      counted None next = refl
      counted (Some way) next = refl

      by : (waits : Bool) (r : Row) → way_in (if waits then by_ack_row v local to r else deliveries.Nothing) ≡ Some way
          → stands_at v local to ≡ Some way
      by true rows.NoEntry found = absurd (None_apart way found)
      by true rows.Blocked found = absurd (None_apart way found)
      by true (rows.Go next sent) found = sym (counted (stands_at v local to) next) ∙ found
      by false r found = absurd (None_apart way found)

  way-home : way_in (home_plan v local) ≡ None
  way-home = by (is_some (channels_at v local).home) (dir_row_of v.exclusive (entry_at v local) dir_events.DataHome)
    where
      by : (waits : Bool) (r : DirRow) → way_in (if waits then by_home_row r else deliveries.Nothing) ≡ None
      by true dir_rows.NoEntry = refl
      by true dir_rows.Blocked = refl
      by true (dir_rows.Go step) = refl
      by false r = refl

  pub planned-way : (channel : Channel) (way : ℕ) → way_in (plan_of v local channel) ≡ Some way
      → stands_at v local (core_of channel) ≡ Some way
  planned-way (channels.Req core) way found = absurd (None_apart way (sym (way-request core) ∙ found))
  planned-way (channels.Fwd core) way found = absurd (None_apart way (sym (way-forwarded core) ∙ found))
  planned-way (channels.Data core) way found = way-data core way found
  planned-way (channels.Ack to from) way found = way-ack to from way found
  planned-way channels.Home way found = absurd (None_apart way (sym way-home ∙ found))

-- A line that is somewhere in its set is held.
pub held-at_way : (cache : CoreCacheView) (local : Local) (way : ℕ)
    → position (holds local) (slots_at cache.array local) ≡ Some way → IsSome (array_at cache.array local)
held-at_way cache local way stands =
    let found = found_at (slots_at cache.array local) (holds local) stands in
    rw found refl
  where
    inside : (b : Bool) (n : ℕ) → cond b (Some n) None ≡ Some way → b ≡ true
    inside true n found = refl
    inside false n found = absurd (None_apart way found)

    found_at : (slots : List (Slot CacheCopy)) (p : Slot CacheCopy → Bool) → position p slots ≡ Some way
        → find p slots ≡ Some (get_or slots (position_or_len p slots) (record { line = local; value = no_copy }))
    found_at slots p found =
        find_at p slots
        ∙ slice_get-get_or slots (position_or_len p slots) (record { line = local; value = no_copy })
        (ltb-true _ _ (inside (nat_lt (position_or_len p slots) (length slots)) (position_or_len p slots) found))
