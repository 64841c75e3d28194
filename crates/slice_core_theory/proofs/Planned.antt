-- A plan that is carried out is for its own kind of channel, whose core is there; a forwarded message finds a copy.
use Rattle.std.proofs.Common.{◌≡◌, ℕ, ◌<◌, ◌≤◌, ◌⊎◌, ◌&&◌, Bool, true, false, not, if◌then◌else◌, length, Option, Some}
use Rattle.std.proofs.Common.{None, IsSome, is_some, slice_get, inl, inr, refl, sym, subst}
use Rattle.std.proofs.lemmas.Bool.{cases_lt}
use Rattle.std.proofs.lemmas.List.{get_or_past}
use Rattle.address_map.proofs.CoreSets.{has-zero}
use Rattle.address_map.specs.CoreSet.{has}
use Rattle.address_map.specs.declared.address.CoreId.{CoreId}
use Rattle.address_map.specs.declared.address.Local.{Local}
use Rattle.cache_array.specs.Array.{held_at as array_at}
use Rattle.cache_table.specs.Row.{row_of}
use Rattle.cache_table.specs.declared.row.CacheEvent.TheVariants as cache_events
use Rattle.cache_table.specs.declared.row.CacheSends.{CacheSends}
use Rattle.cache_table.specs.declared.row.Row.{Row}
use Rattle.cache_table.specs.declared.row.Row.TheVariants as rows
use Rattle.cache_table.specs.declared.state.CopyState.{CopyState}
use Rattle.directory_table.specs.Row.{row_of as dir_row_of}
use Rattle.directory_table.specs.declared.row.DirEvent.TheVariants as dir_events
use Rattle.directory_table.specs.declared.row.DirRow.{DirRow}
use Rattle.directory_table.specs.declared.row.DirRow.TheVariants as dir_rows
use Rattle.directory_table.specs.declared.row.DirStep.{DirStep}
use Rattle.slice_answer.specs.declared.answer.Cell.TheVariants as cells
use Rattle.slice_core_spec.specs.Plan.{ack_plan, acknowledge_at, asks, by_ack_row, by_data_row, by_directory_row}
use Rattle.slice_core_spec.specs.Plan.{by_forwarded_row, by_home_row, data_by, data_plan, event_of_data}
use Rattle.slice_core_spec.specs.Plan.{event_of_forwarded, event_of_request, fill_at, forwarded_by, forwarded_plan}
use Rattle.slice_core_spec.specs.Plan.{home_plan, is_put_ack, plan_of, request_by, request_plan, requester_of}
use Rattle.slice_core_spec.specs.Plan.{stands_at}
use Rattle.slice_core_spec.specs.Sends.{cache_room, directory_room}
use Rattle.slice_core_spec.specs.View.{View, IsShaped, channels_at, entry_at, cache_at}
use Rattle.slice_core_spec.specs.Within.{HasCopy}
use Rattle.slice_core_cache.specs.Copy.{found_in}
use Rattle.slice_core_cache.specs.CoreCache.{copy_of}
use Rattle.slice_core_cache.specs.declared.copy.CacheCopy.{CacheCopy}
use Rattle.slice_queues.specs.Line.{CoreChannels, core_at, no_messages}
use Rattle.slice_queues.specs.declared.channel.Channel.{Channel}
use Rattle.slice_queues.specs.declared.channel.Channel.TheVariants as channels
use Rattle.slice_queues.specs.declared.message.DataMessage.{DataMessage}
use Rattle.slice_queues.specs.declared.message.ForwardedMessage.{ForwardedMessage}
use Rattle.slice_queues.specs.declared.message.ForwardedMessage.TheVariants as forwarded_messages
use Rattle.slice_queues.specs.declared.message.RequestMessage.{RequestMessage}
use Rattle.writeback_buffer.specs.Buffer.{held_at as buffer_at}
use Rattle.writeback_buffer.specs.declared.pending.Leaving.{Leaving}
use Rattle.slice_answer.specs.declared.answer.Delivery.TheVariants as deliveries
use Rattle.slice_answer.specs.declared.answer.Delivery.{Delivery}
use Rattle.slice_core_spec.specs.Plan.{directory_move, forwarded_move}
use Rattle.slice_core_spec.specs.declared.transition.Transition.TheVariants as transitions
use Rattle.slice_core_spec.specs.declared.transition.Transition.{Transition}

-- What is known of a plan at a channel.
abbrev pub IsFor : View → Channel → Local → Delivery Transition → Type 0
IsFor v channel local deliveries.Nothing = Unit {0}
IsFor v channel local deliveries.Blocked = Unit {0}
IsFor v channel local (deliveries.Broken cell) = Unit {0}
IsFor v (channels.Req core) local (deliveries.Moved (transitions.Directory step)) = core.0 < length v.caches
IsFor v channels.Home local (deliveries.Moved (transitions.Home step)) = Unit {0}
IsFor v (channels.Fwd core) local (deliveries.Moved (transitions.Forwarded step)) =
    (core.0 < length v.caches) × HasCopy (cache_at v core) local
IsFor v (channels.Data core) local (deliveries.Moved (transitions.Fill step)) = core.0 < length v.caches
IsFor v (channels.Ack to from) local (deliveries.Moved (transitions.Acknowledge step)) = to.0 < length v.caches
IsFor v channel local plan = ⊥

-- The core has a copy, or the table has no row for the message.
copy_or_no_row : (copy : Option CacheCopy) (leaving : Option Leaving) (message : ForwardedMessage)
    → (IsSome copy ⊎ IsSome leaving)
    ⊎ (row_of (found_in copy leaving).state (event_of_forwarded message) ≡ rows.NoEntry)
copy_or_no_row (Some copy) leaving message = inl (inl refl)
copy_or_no_row None (Some leaving) message = inl (inr refl)
copy_or_no_row None None (forwarded_messages.FwdGetS requester) = inr refl
copy_or_no_row None None (forwarded_messages.FwdGetM requester) = inr refl
copy_or_no_row None None (forwarded_messages.Inv requester) = inr refl
copy_or_no_row None None forwarded_messages.PutAck = inr refl

module _ (v : View) (local : Local) (shaped : IsShaped v) (inside : local.0 < v.lines.lines) where
  -- No message waits for a core that isn't there.
  nobody : (core : ℕ) → length v.caches ≤ core → core_at (channels_at v local) core ≡ no_messages
  nobody core past =
      get_or_past (channels_at v local).cores core no_messages (rw (shaped.cores local inside) past)

  -- What is known of a core that is there, and where it has no message, is known of each.
  by_core : (core : CoreId) (plan : CoreChannels → Delivery Transition) (channel : Channel)
      → IsFor v channel local (plan no_messages)
      → (core.0 < length v.caches → IsFor v channel local (plan (core_at (channels_at v local) core.0)))
      → IsFor v channel local (plan (core_at (channels_at v local) core.0))
  by_core core plan channel none there =
      elim (cases_lt core.0 (length v.caches)) [
        | inl within ↦ there within
        | inr past ↦ subst (λ m. IsFor v channel local (plan m)) (sym (nobody core.0 past)) none
      ]

  for_request : (core : CoreId) → IsFor v (channels.Req core) local (request_plan v local core)
  for_request core =
      by_core core (λ m. request_by v local core m.request) (channels.Req core) tt
      (λ there. by there (core_at (channels_at v local) core.0).request)
    where
      room : core.0 < length v.caches → (b : Bool) (step : DirStep)
          → IsFor v (channels.Req core) local (if b then directory_move step else deliveries.Broken cells.Full)
      room there true step = there
      room there false step = tt

      row : core.0 < length v.caches → (r : DirRow)
          → IsFor v (channels.Req core) local (by_directory_row (channels_at v local) core r)
      row there dir_rows.NoEntry = tt
      row there dir_rows.Blocked = tt
      row there (dir_rows.Go step) = room there (directory_room (channels_at v local) core step.sends) step

      by : core.0 < length v.caches → (waits : Option RequestMessage)
          → IsFor v (channels.Req core) local (request_by v local core waits)
      by there None = tt
      by there (Some message) = row there (dir_row_of v.exclusive (entry_at v local) (event_of_request core message))

  for_home : IsFor v channels.Home local (home_plan v local)
  for_home = by (is_some (channels_at v local).home) (dir_row_of v.exclusive (entry_at v local) dir_events.DataHome)
    where
      by : (waits : Bool) (r : DirRow) → IsFor v channels.Home local (if waits then by_home_row r else deliveries.Nothing)
      by true dir_rows.NoEntry = tt
      by true dir_rows.Blocked = tt
      by true (dir_rows.Go step) = tt
      by false r = tt

  for_forwarded : (core : CoreId) → IsFor v (channels.Fwd core) local (forwarded_plan v local core)
  for_forwarded core =
      by_core core (λ m. forwarded_by v local core (slice_get m.forwarded 0)) (channels.Fwd core) tt
      (λ there. by there (slice_get (core_at (channels_at v local) core.0).forwarded 0))
    where
      tests : core.0 < length v.caches → HasCopy (cache_at v core) local → (full early : Bool) (next : CopyState)
          (sent : CacheSends) (requester : CoreId)
          → IsFor v (channels.Fwd core) local (if full then deliveries.Broken cells.Full
          else if early then deliveries.Broken cells.Early else forwarded_move next sent requester)
      tests there copy true early next sent requester = tt
      tests there copy false true next sent requester = tt
      tests there copy false false next sent requester = (there, copy)

      row : core.0 < length v.caches → (message : ForwardedMessage) (r : Row)
          → HasCopy (cache_at v core) local ⊎ (r ≡ rows.NoEntry)
          → IsFor v (channels.Fwd core) local (by_forwarded_row v local core message r)
      row there message rows.NoEntry copy = tt
      row there message rows.Blocked copy = tt
      row there message (rows.Go next sent) (inl copy) =
          tests there copy (not (cache_room (channels_at v local) core (requester_of core message) sent))
          (is_put_ack message && asks v local core) next sent (requester_of core message)
      row there message (rows.Go next sent) (inr none) = absurd (cc none)

      by : core.0 < length v.caches → (waits : Option ForwardedMessage)
          → IsFor v (channels.Fwd core) local (forwarded_by v local core waits)
      by there None = tt
      by there (Some message) =
          row there message (row_of (copy_of (cache_at v core) local).state (event_of_forwarded message))
          (copy_or_no_row (array_at (cache_at v core).array local)
          (buffer_at (cache_at v core).buffer.write_backs local.0)
          message)

  for_data : (core : CoreId) → IsFor v (channels.Data core) local (data_plan v local core)
  for_data core =
      by_core core (λ m. data_by v local core m.data) (channels.Data core) tt
      (λ there. by there (core_at (channels_at v local) core.0).data)
    where
      filled : core.0 < length v.caches → (stands : Option ℕ) (next : CopyState)
          → IsFor v (channels.Data core) local (fill_at stands next)
      filled there None next = tt
      filled there (Some way) next = there

      early : core.0 < length v.caches → (b : Bool) (next : CopyState)
          → IsFor v (channels.Data core) local
          (if b then deliveries.Broken cells.Early else fill_at (stands_at v local core) next)
      early there true next = tt
      early there false next = filled there (stands_at v local core) next

      row : core.0 < length v.caches → (r : Row) → IsFor v (channels.Data core) local (by_data_row v local core r)
      row there rows.NoEntry = tt
      row there rows.Blocked = tt
      row there (rows.Go next sent) = early there (asks v local core) next

      by : core.0 < length v.caches → (waits : Option DataMessage)
          → IsFor v (channels.Data core) local (data_by v local core waits)
      by there None = tt
      by there (Some message) =
          row there (row_of (copy_of (cache_at v core) local).state (event_of_data v local core message))

  -- the row for an acknowledgement that comes now
  abbrev ack_row : CoreId → Row
  ack_row to =
      row_of (copy_of (cache_at v to) local).state
      (cache_events.InvAck (copy_of (cache_at v to) local).wants (copy_of (cache_at v to) local).counted)

  for_ack : (to from : CoreId) → IsFor v (channels.Ack to from) local (ack_plan v local to from)
  for_ack to from =
      by_core to (λ m. if has m.acks from.0 then by_ack_row v local to (ack_row to) else deliveries.Nothing)
      (channels.Ack to from)
      (subst (λ b. IsFor v (channels.Ack to from) local (if b then by_ack_row v local to (ack_row to) else
      deliveries.Nothing))
      (sym (has-zero from.0)) tt)
      (λ there. by there (has (core_at (channels_at v local) to.0).acks from.0) (ack_row to))
    where
      counted : to.0 < length v.caches → (stands : Option ℕ) (next : CopyState)
          → IsFor v (channels.Ack to from) local (acknowledge_at stands next)
      counted there None next = tt
      counted there (Some way) next = there

      by : to.0 < length v.caches → (waits : Bool) (r : Row)
          → IsFor v (channels.Ack to from) local (if waits then by_ack_row v local to r else deliveries.Nothing)
      by there true rows.NoEntry = tt
      by there true rows.Blocked = tt
      by there true (rows.Go next sent) = counted there (stands_at v local to) next
      by there false r = tt

  for_planned : (channel : Channel) → IsFor v channel local (plan_of v local channel)
  for_planned (channels.Req core) = for_request core
  for_planned (channels.Fwd core) = for_forwarded core
  for_planned (channels.Data core) = for_data core
  for_planned (channels.Ack to from) = for_ack to from
  for_planned channels.Home = for_home

  pub is_for : (channel : Channel) (plan : Delivery Transition) → plan_of v local channel ≡ plan → IsFor v channel local plan
  is_for channel plan is = subst (λ (p : Delivery Transition). IsFor v channel local p) is (for_planned channel)
