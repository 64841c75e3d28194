-- Data and acknowledgements that a core takes keep what copies, registers and requests owe each other: the register
-- stays exactly where targets are left, and the right to write is asked for where a write is left after loads.
use Rattle.std.proofs.Common.{◌≡◌, ℕ, ◌<◌, Bool, true, false, if◌then◌else◌, List, ◌++◌, length, Option, Some, None}
use Rattle.std.proofs.Common.{IsSome, is_some, IfSome, unwrap_or, refl, sym, ap, ◌∙◌, subst, take-append-drop}
use Rattle.std.proofs.lemmas.List.{append-nil, append_cancel_left, length-set}
use Rattle.std.specs.List.{list_all, prefix_len}
use Rattle.address_map.specs.CoreSet.{has}
use Rattle.address_map.specs.declared.address.CoreId.{CoreId}
use Rattle.address_map.specs.declared.address.Local.{Local}
use Rattle.address_map.specs.declared.block.Block.{Block}
use Rattle.cache_array.specs.Array.{held_at as array_at}
use Rattle.cache_table.specs.CopyState.{is_leaving, is_waiting}
use Rattle.cache_table.specs.Row.{row_of}
use Rattle.cache_table.specs.declared.row.CacheEvent.TheVariants as cache_events
use Rattle.cache_table.specs.declared.row.CacheSends.{CacheSends}
use Rattle.cache_table.specs.declared.row.Row.{Row}
use Rattle.cache_table.specs.declared.row.Row.TheVariants as rows
use Rattle.cache_table.specs.declared.state.CopyState.{CopyState}
use Rattle.cache_table.specs.declared.state.CopyState.TheVariants as copy_states
use Rattle.mshr_file.specs.Miss.{is_waited, targets_of, TakesTargets}
use Rattle.mshr_file.specs.declared.registers.Register.{Register}
use Rattle.slice_core_spec.specs.Calls.{filled_by}
use Rattle.slice_core_spec.specs.Plan.{event_of_data, plan_of, stands_at}
use Rattle.slice_core_spec.specs.Steps.{after_settling, asked_by}
use Rattle.slice_core_spec.specs.View.{View, channels_at, cache_at, IsShaped}
use Rattle.slice_core_cache.proofs.Found.{changes-change, changes-settle, kept-after_change}
use Rattle.slice_core_cache.proofs.Lines.{ChangesLine}
use Rattle.slice_core_cache.specs.Copy.{found_in, no_copy}
use Rattle.slice_core_cache.specs.Kept.{IsKept, stands_in_array}
use Rattle.slice_core_cache.specs.Perform.{asks_to_write, block_after, left_in, performed_in, settled_state}
use Rattle.slice_core_cache.specs.CoreCache.{CoreCacheView, array_copy, copy_of, state_of}
use Rattle.slice_core_cache.specs.Steps.{after_change, after_settle, settled_copy, copy_after_settle}
use Rattle.slice_core_cache.specs.declared.copy.CacheCopy.{CacheCopy}
use Rattle.slice_core.proofs.LinksFrame.{links_logged, links_step}
use Rattle.slice_core.proofs.LinksRequests.{asked, asked-ack_taken, asked-asked_by, asked-asked_by_other}
use Rattle.slice_core.proofs.LinksRequests.{asked-data_taken}
use Rattle.slice_core.proofs.LinksAsking.{sent-none}
use Rattle.slice_core.proofs.LinksStates.{asked_then, comes_by_ack, comes_by_data, comes_by_exclusive, ComesTo}
use Rattle.slice_core.proofs.LinksStates.{settled-sent, settled-stands, settled-waits, waits-or_leaves}
use Rattle.slice_core.specs.Sound.{HasLinks, has_sent}
use Rattle.slice_queues.specs.Line.{after_take, core_at}
use Rattle.slice_queues.specs.declared.channel.Channel.{Channel}
use Rattle.slice_queues.specs.declared.channel.Channel.TheVariants as channels
use Rattle.slice_queues.specs.declared.message.DataMessage.{DataMessage}
use Rattle.slice_queues.specs.declared.message.DataMessage.TheVariants as data_messages
use Rattle.slice_queues.specs.declared.message.RequestMessage.{RequestMessage}
use Rattle.target_list.specs.Target.{is_load}
use Rattle.target_list.specs.declared.target.Target.{Target}
use Rattle.writeback_buffer.specs.Buffer.{held_at as buffer_at}
use Rattle.writeback_buffer.specs.declared.pending.Leaving.{Leaving}
use Rattle.slice_answer.specs.declared.answer.Delivery.TheVariants as deliveries
use Rattle.slice_answer.specs.declared.answer.Delivery.{Delivery}
use Rattle.slice_core_spec.specs.Plan.{ack_move, fill_move}
use Rattle.slice_core_spec.specs.declared.transition.Transition.TheVariants as transitions
use Rattle.slice_core_spec.specs.declared.transition.Transition.{Transition}

-- ---- the copy

-- a copy that waits is in the array
pub waits-held : (cache : CoreCacheView) (local : Local) → IsKept cache → is_waiting (state_of cache local) ≡ true →
    IsSome (array_at cache.array local)
waits-held cache local kept =
    by (array_at cache.array local) (buffer_at cache.buffer.write_backs local.0) (kept.leaving local)
  where
    by : (copy : Option CacheCopy) (leaving : Option Leaving) → IfSome leaving (λ l. is_leaving l.state ≡ true) →
        is_waiting (found_in copy leaving).state ≡ true → IsSome copy
    by (Some copy) leaving leaves waits = refl
    by None (Some leaving) leaves waits = let still = waits-or_leaves leaving.state leaves in absurd (cc (still, waits))
    by None None leaves waits = absurd (cc waits)

-- what is performed and what is left are all targets
performed-left : (state : CopyState) (targets : List Target) →
    performed_in state targets ++ left_in state targets ≡ targets
performed-left copy_states.S targets = take-append-drop (prefix_len is_load targets) targets
performed-left copy_states.M targets = append-nil targets
performed-left copy_states.E targets = append-nil targets
performed-left _ targets = refl

-- a settled copy's state
state-settled : (copy : CacheCopy) (block : Block) (state : CopyState) → (settled_copy copy block state).state ≡ state
state-settled copy block state = by (is_waiting copy.state)
  where
    by : (b : Bool) → (if b then record copy { block = block; state = state }
        else record { block = block; state = state; wants = 0; counted = 0 }).state ≡ state
    by true = refl
    by false = refl

module _ (cache : CoreCacheView) (local : Local) (kept : IsKept cache) (held : IsSome (array_at cache.array local))
    (copy : CacheCopy)
    (stands : stands_in_array copy.state ≡ true) where
  changed : array_copy (after_change cache local copy) local ≡ copy
  changed = ap (λ o. unwrap_or o no_copy) (changes-change cache local kept held copy).in_array

  -- of the line array and buffer hold the settled copy
  pub changes-both : (number : ℕ) (misses : List Register) →
      ChangesLine cache (after_settle (after_change cache local copy) local number misses) local
      (Some (copy_after_settle (targets_of cache.misses local.0) copy)) None
  changes-both number misses =
      let first = changes-change cache local kept held copy in
      let second = changes-settle (after_change cache local copy) local
      (kept-after_change cache local kept held copy stands)
      (ap is_some first.in_array) number misses in record {
        in_array = second.in_array ∙ ap (λ c. Some (copy_after_settle (targets_of cache.misses local.0) c)) changed;
        in_buffer = second.in_buffer;
        array_others = λ other apart. second.array_others other apart ∙ first.array_others other apart;
        buffer_others = λ other apart. second.buffer_others other apart ∙ first.buffer_others other apart;
        array_sound = second.array_sound;
        buffer_sound = second.buffer_sound;
      }

-- ---- the step

module _ (v : View) (local : Local) (core : CoreId) (shaped : IsShaped v) (links : HasLinks v)
    (there : core.0 < length v.caches) (within : local.0 < v.lines.lines) where
  -- A copy that waited, and that has come to its state by the message of a channel, keeps the links once it has
  -- settled.
  links_settling : (channel : Channel) (copy : CacheCopy) (misses : List Register) →
      is_waiting (state_of (cache_at v core) local) ≡ true → stands_in_array copy.state ≡ true →
      has_sent copy.state (asked (channels_at v local) core.0) ≡ true →
      ((other : ℕ) → asked (after_take (channels_at v local) channel) other ≡ asked (channels_at v local) other) →
      core.0 < length (after_take (channels_at v local) channel).cores →
      TakesTargets (cache_at v core).misses misses local.0
      (performed_in copy.state (targets_of (cache_at v core).misses local.0)) →
      HasLinks (after_settling v local core channel copy misses)
  links_settling channel copy misses waited stands sent taken lined takes =
      let cache = cache_at v core in
      let kept = links.kept core there in
      let held = waits-held cache local kept waited in
      let targets = targets_of cache.misses local.0 in
      let line = after_take (channels_at v local) channel in
      let write = asks_to_write copy.state targets in
      let new = copy_after_settle targets copy in
      let left = left_in copy.state targets in
      let state : new.state ≡ settled_state copy.state left =
      state-settled copy (block_after copy.block (performed_in copy.state targets)) (settled_state copy.state left) in
      let some : is_waited targets ≡ true = sym (links.waits core local there) ∙ waited in
      let rest : left ≡ targets_of misses local.0 =
      append_cancel_left (performed_in copy.state targets) left (targets_of misses local.0)
      (performed-left copy.state targets ∙ takes.here) in
      links_logged _ _
      (links_step v core local (after_settle (after_change cache local copy) local (length v.log) misses)
      (asked_by write line core)
      (Some new) None
      (record {
        changes = changes-both cache local kept held copy stands (length v.log) misses;
        fits = ap stands_in_array state ∙ settled-stands copy.state targets stands;
        misses = takes.others;
        requests = λ other apart. asked-asked_by_other write line core other apart ∙ taken other;
        waits = ap is_waiting state ∙ settled-waits copy.state targets stands some ∙ ap is_waited rest;
        sent =
            ap (λ s. has_sent s (asked (asked_by write line core) core.0)) state
            ∙ ap (has_sent (settled_state copy.state left))
            (asked-asked_by write line core lined ∙ ap (asked_then write) (taken core.0))
            ∙ settled-sent copy.state targets (asked (channels_at v local) core.0) sent;
      })
      shaped links there within)

-- ---- the rows

-- what is known of a plan for data by its row: the copy waited for them, and its request was taken
abbrev pub IsFilling : View → Local → CoreId → Delivery Transition → Type 0
IsFilling v local core (deliveries.Moved (transitions.Fill step)) =
    ComesTo (state_of (cache_at v core) local) step.next None × (asked (channels_at v local) core.0 ≡ None)
IsFilling v local core plan = Unit {0}

-- and of one for an acknowledgement
abbrev pub IsCounting : View → Local → CoreId → Delivery Transition → Type 0
IsCounting v local core (deliveries.Moved (transitions.Acknowledge step)) =
    ComesTo (state_of (cache_at v core) local) step.next (asked (channels_at v local) core.0)
IsCounting v local core plan = Unit {0}

module _ (v : View) (local : Local) (core : CoreId) where
  data-planned : IsFilling v local core (plan_of v local (channels.Data core))
  data-planned = by (core_at (channels_at v local) core.0).data refl
    where
      comes : (message : DataMessage) (next : CopyState) (sent : CacheSends) →
          row_of (state_of (cache_at v core) local) (event_of_data v local core message) ≡ rows.Go next sent →
          ComesTo (state_of (cache_at v core) local) next None
      comes (data_messages.Data block acks) next sent e =
          comes_by_data acks (copy_of (cache_at v core) local).counted (state_of (cache_at v core) local) next sent e
      comes (data_messages.DataE block) next sent e =
          comes_by_exclusive (list_all is_load (targets_of (cache_at v core).misses local.0))
          (state_of (cache_at v core) local) next sent e

      by_row : (message : DataMessage) → (core_at (channels_at v local) core.0).data ≡ Some message → (row : Row) →
          row_of (state_of (cache_at v core) local) (event_of_data v local core message) ≡ row →
          IsFilling v local core (plan_of v local (channels.Data core))
      by_row message is rows.NoEntry e = rw (is, e) tt
      by_row message is rows.Blocked e = rw (is, e) tt
      by_row message is (rows.Go next sent) e =
          by_place (asked (channels_at v local) core.0) refl (stands_at v local core) refl
        where
          by_place : (request : Option RequestMessage) → asked (channels_at v local) core.0 ≡ request →
              (way : Option ℕ) → stands_at v local core ≡ way →
              IsFilling v local core (plan_of v local (channels.Data core))
          by_place (Some request) waits way stands = rw (is, e, waits) tt
          by_place None none None stands = rw (is, e, none, stands) tt
          by_place None none (Some way) stands = rw (is, e, none, stands) (comes message next sent e, none)

      by : (front : Option DataMessage) → (core_at (channels_at v local) core.0).data ≡ front →
          IsFilling v local core (plan_of v local (channels.Data core))
      by None is = rw is tt
      by (Some message) is =
          by_row message is (row_of (state_of (cache_at v core) local) (event_of_data v local core message)) refl

  ack-planned : (from : CoreId) → IsCounting v local core (plan_of v local (channels.Ack core from))
  ack-planned from = by (has (core_at (channels_at v local) core.0).acks from.0) refl
    where
      by_row : has (core_at (channels_at v local) core.0).acks from.0 ≡ true → (row : Row) →
          row_of (state_of (cache_at v core) local)
          (cache_events.InvAck (copy_of (cache_at v core) local).wants (copy_of (cache_at v core) local).counted)
          ≡ row →
          IsCounting v local core (plan_of v local (channels.Ack core from))
      by_row is rows.NoEntry e = rw (is, e) tt
      by_row is rows.Blocked e = rw (is, e) tt
      by_row is (rows.Go next sent) e = by_place (stands_at v local core) refl
        where
          by_place : (way : Option ℕ) → stands_at v local core ≡ way →
              IsCounting v local core (plan_of v local (channels.Ack core from))
          by_place None stands = rw (is, e, stands) tt
          by_place (Some way) stands =
              rw (is, e, stands)
              (comes_by_ack (copy_of (cache_at v core) local).wants (copy_of (cache_at v core) local).counted
              (state_of (cache_at v core) local) next sent (asked (channels_at v local) core.0) e)

      by : (waits : Bool) → has (core_at (channels_at v local) core.0).acks from.0 ≡ waits →
          IsCounting v local core (plan_of v local (channels.Ack core from))
      by true is =
          by_row is
          (row_of (state_of (cache_at v core) local)
          (cache_events.InvAck (copy_of (cache_at v core) local).wants (copy_of (cache_at v core) local).counted)) refl
      by false is = rw is tt

-- ---- the messages

-- a copy that data fill is in its next state
pub state-filled_by : (copy : CacheCopy) (message : Option DataMessage) (next : CopyState) →
    (filled_by copy message next).state ≡ next
state-filled_by copy None next = refl
state-filled_by copy (Some (data_messages.Data block acks)) next = refl
state-filled_by copy (Some (data_messages.DataE block)) next = refl

module _ (v : View) (local : Local) (core : CoreId) (shaped : IsShaped v) (links : HasLinks v)
    (there : core.0 < length v.caches) (within : local.0 < v.lines.lines) where
  -- Data that a core takes keep the links.
  pub links_fill : (way : ℕ) (next : CopyState) (copy : CacheCopy) (misses : List Register) →
      plan_of v local (channels.Data core) ≡ fill_move way next → copy.state ≡ next →
      TakesTargets (cache_at v core).misses misses local.0
      (performed_in copy.state (targets_of (cache_at v core).misses local.0)) →
      HasLinks (after_settling v local core (channels.Data core) copy misses)
  links_fill way next copy misses is state takes =
      let line = channels_at v local in
      let fills = subst (IsFilling v local core) is (data-planned v local core) in
      links_settling v local core shaped links there within (channels.Data core) copy misses fills.0.waited
      (ap stands_in_array state ∙ fills.0.stands)
      (ap (has_sent copy.state) fills.1 ∙ sent-none copy.state)
      (λ other. asked-data_taken line core other)
      (subst (λ n. core.0 < n) (sym (length-set line.cores core.0 _ ∙ shaped.cores local within)) there)
      takes

  -- An acknowledgement that a core takes keeps the links.
  pub links_acknowledge : (from : CoreId) (way : ℕ) (next : CopyState) (copy : CacheCopy) (misses : List Register) →
      plan_of v local (channels.Ack core from) ≡ ack_move way next → copy.state ≡ next →
      TakesTargets (cache_at v core).misses misses local.0
      (performed_in copy.state (targets_of (cache_at v core).misses local.0)) →
      HasLinks (after_settling v local core (channels.Ack core from) copy misses)
  links_acknowledge from way next copy misses is state takes =
      let line = channels_at v local in
      let counts = subst (IsCounting v local core) is (ack-planned v local core from) in
      links_settling v local core shaped links there within (channels.Ack core from) copy misses counts.waited
      (ap stands_in_array state ∙ counts.stands)
      (ap (λ s. has_sent s (asked line core.0)) state ∙ counts.sent (links.sent core local there within))
      (λ other. asked-ack_taken line core other from)
      (subst (λ n. core.0 < n) (sym (length-set line.cores core.0 _ ∙ shaped.cores local within)) there)
      takes
