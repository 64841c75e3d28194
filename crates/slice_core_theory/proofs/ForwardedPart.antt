-- A forwarded message that a core takes: the row that was planned, and the core's own part.
use Rattle.std.proofs.Common.{◌≡◌, ℕ, ◌+◌, ◌==◌, ◌&&◌, ◌||◌, Bool, true, false, not, drop, if◌then◌else◌, Option, Some}
use Rattle.std.proofs.Common.{None, slice_get, refl, sym, ap, ◌∙◌, arith, true≢false}
use Rattle.std.proofs.Math.Bool.{or-false}
use Rattle.address_map.specs.declared.address.CoreId.{CoreId}
use Rattle.address_map.specs.declared.address.Local.{Local}
use Rattle.cache_table.specs.CopyState.{is_waiting}
use Rattle.cache_table.specs.Law.{sends_inv_ack}
use Rattle.cache_table.specs.Row.{row_of}
use Rattle.cache_table.specs.declared.row.CacheSends.{CacheSends}
use Rattle.cache_table.specs.declared.row.Row.{Row}
use Rattle.cache_table.specs.declared.row.Row.TheVariants as rows
use Rattle.cache_table.specs.declared.state.CopyState.{CopyState}
use Rattle.cache_table.specs.declared.state.CopyState.TheVariants as copy_states
use Rattle.slice_core_theory.proofs.Parts.{IsFirst, first_taken}
use Rattle.slice_core_theory.proofs.Rows.{IsAnswer, sends_for}
use Rattle.slice_core_theory.specs.Stands.{PartStands}
use Rattle.slice_core_spec.specs.Plan.{asks, by_forwarded_row, event_of_forwarded, forwarded_by, is_put_ack}
use Rattle.slice_core_spec.specs.Plan.{requester_of}
use Rattle.slice_core_spec.specs.Sends.{cache_room}
use Rattle.slice_core_spec.specs.View.{View, channels_at, cache_at}
use Rattle.slice_answer.specs.declared.answer.Cell.TheVariants as cells
use Rattle.protocol_coherence.specs.Line.{Part}
use Rattle.protocol_coherence.specs.LineSteps.{part_after_row, asks_for, change_if, part_with_data, stands_ack}
use Rattle.protocol_coherence.specs.LineSteps.{look_after_take}
use Rattle.protocol_coherence.specs.Line.{Request}
use Rattle.slice_core_cache.specs.Copy.{is_gone, no_copy}
use Rattle.slice_core_cache.specs.CoreCache.{state_of}
use Rattle.slice_core_cache.specs.declared.copy.CacheCopy.{CacheCopy}
use Rattle.slice_queues.specs.Line.{CoreChannels, core_at}
use Rattle.slice_queues.specs.declared.message.ForwardedMessage.{ForwardedMessage}
use Rattle.slice_queues.specs.declared.message.ForwardedMessage.TheVariants as forwarded_messages
use Rattle.slice_answer.specs.declared.answer.Delivery.TheVariants as deliveries
use Rattle.slice_answer.specs.declared.answer.Delivery.{Delivery}
use Rattle.slice_core_spec.specs.Plan.{forwarded_move}
use Rattle.slice_core_spec.specs.declared.transition.Transition.TheVariants as transitions
use Rattle.slice_core_spec.specs.declared.transition.Transition.{Transition}

-- ---- the row that was planned

-- what is planned by a row that goes on, and for whom
row_in : Delivery Transition → Row
row_in (deliveries.Moved (transitions.Forwarded step)) = rows.Go step.next step.sends
row_in _ = rows.Blocked

requester_in : CoreId → Delivery Transition → CoreId
requester_in core (deliveries.Moved (transitions.Forwarded step)) = step.requester
requester_in core _ = core

module _ (v : View) (local : Local) (core : CoreId) (next : CopyState) (sent : CacheSends) (requester : CoreId) where
  -- the message that was taken, and its row
  pub record IsMessage (message : ForwardedMessage) : Type 0 where
    pub waits : slice_get (core_at (channels_at v local) core.0).forwarded 0 ≡ Some message
    pub row : row_of (state_of (cache_at v core) local) (event_of_forwarded message) ≡ rows.Go next sent
    pub names : requester_of core message ≡ requester

  planned_by : (message : ForwardedMessage) (row : Row)
      → by_forwarded_row v local core message row ≡ forwarded_move next sent requester
      → (row ≡ rows.Go next sent) × (requester_of core message ≡ requester)
  unfolding row_in requester_in
  planned_by message rows.NoEntry is = absurd (cc is)
  planned_by message rows.Blocked is = absurd (cc is)
  planned_by message (rows.Go n s) is =
      by_tests (cache_room (channels_at v local) core (requester_of core message) s)
      (is_put_ack message && asks v local core) is
    where
      by_tests : (room early : Bool)
          → (if not room then deliveries.Broken cells.Full else if early then deliveries.Broken cells.Early
          else forwarded_move n s (requester_of core message)) ≡ forwarded_move next sent requester
          → (rows.Go n s ≡ rows.Go next sent) × (requester_of core message ≡ requester)
      by_tests false early is = absurd (cc is)
      by_tests true true is = absurd (cc is)
      by_tests true false is = (ap row_in is, ap (requester_in core) is)

  pub message_by : (front : Option ForwardedMessage)
      → slice_get (core_at (channels_at v local) core.0).forwarded 0 ≡ front
      → forwarded_by v local core front ≡ forwarded_move next sent requester
      → (message : ForwardedMessage) × IsMessage message
  message_by None waits is = absurd (cc is)
  message_by (Some message) waits is =
      let planned = planned_by message (row_of (state_of (cache_at v core) local) (event_of_forwarded message)) is in
      (message, record { waits = waits; row = planned.0; names = planned.1 })

-- ---- the core's own part

-- the copy that went to its next state, if anything is left of it
abbrev pub moved : CacheCopy → CopyState → CacheCopy
moved copy next = if is_gone next then no_copy else record copy { state = next }

pub moved-state : (copy : CacheCopy) (next : CopyState) → (moved copy next).state ≡ next
moved-state copy copy_states.I = refl
moved-state copy _ = refl

-- A copy that waits stays, with its count.
moved-counted : (copy : CacheCopy) (next : CopyState) → is_waiting next ≡ true
    → (moved copy next).counted ≡ copy.counted
moved-counted copy copy_states.I waits = cc
moved-counted copy _ waits = cc

-- No forwarded message has its core ask for anything.
asks-nothing : (message : ForwardedMessage) (own : Request) → asks_for (sends_for message) own ≡ own
asks-nothing (forwarded_messages.Inv core) own = refl
asks-nothing (forwarded_messages.FwdGetS core) own = refl
asks-nothing (forwarded_messages.FwdGetM core) own = refl
asks-nothing forwarded_messages.PutAck own = refl

-- The core's copy and channels after the message are its part after the row.
pub part_after : (copy : CacheCopy) (mail : CoreChannels) (part : Part) (message : ForwardedMessage) (next : CopyState)
    → IsFirst message part → IsAnswer message part.look.state next (sends_for message) → PartStands copy mail part
    → PartStands (moved copy next) (record mail { forwarded = drop 1 mail.forwarded })
    (part_after_row (event_of_forwarded message) 0 next (sends_for message) part)
part_after copy mail part message next first answer stands =
    let took = first_taken copy mail part message first stands in record {
      state = moved-state copy next;
      request = took.request
          ∙ sym (asks-nothing message (look_after_take (event_of_forwarded message) part.look).request);
      incoming = took.incoming;
      queue = took.queue;
      named = took.named;
      wants = λ h. absurd (true≢false (sym h ∙ answer.not_counting));
      counted = λ waits.
          let more : part.counted ≡ part.counted + 0 = omega arith in
          moved-counted copy next waits ∙ stands.counted (answer.waited waits) ∙ more
          ∙ sym (ap (λ b. if b then part.counted + 0 else 0) waits);
    }

-- ---- acknowledgements

-- A turn that sends no Inv-Ack leaves what is owed, as do data that come.
pub owes-turned : (message : ForwardedMessage) (next : CopyState) (sent : CacheSends) (part : Part) (to : ℕ)
    → sends_inv_ack sent ≡ false
    → stands_ack (part_after_row (event_of_forwarded message) 0 next sent part) to ≡ stands_ack part to
owes-turned (forwarded_messages.Inv core) next sent part to none =
    ap (λ b. b && part.owes_to == to) (ap (λ b. part.look.sent || b) none ∙ or-false part.look.sent)
owes-turned (forwarded_messages.FwdGetS core) next sent part to none =
    ap (λ b. b && part.owes_to == to) (ap (λ b. part.look.sent || b) none ∙ or-false part.look.sent)
owes-turned (forwarded_messages.FwdGetM core) next sent part to none =
    ap (λ b. b && part.owes_to == to) (ap (λ b. part.look.sent || b) none ∙ or-false part.look.sent)
owes-turned forwarded_messages.PutAck next sent part to none =
    ap (λ b. b && part.owes_to == to) (ap (λ b. part.look.sent || b) none ∙ or-false part.look.sent)

pub owes-given : (b : Bool) (part : Part) (to : ℕ) → stands_ack (change_if b part_with_data part) to
    ≡ stands_ack part to
owes-given true part to = refl
owes-given false part to = refl

-- Which acknowledgements wait for the core is no part of its own.
pub acks_apart : (copy : CacheCopy) (mail : CoreChannels) (part : Part) (acks : ℕ) → PartStands copy mail part
    → PartStands copy (record mail { acks = acks }) part
acks_apart copy mail part acks stands = record {
  state = stands.state;
  request = stands.request;
  incoming = stands.incoming;
  queue = stands.queue;
  named = stands.named;
  wants = stands.wants;
  counted = stands.counted;
}
