-- No channel of a line that the machine reaches has more messages than it takes, and what waits there is of cores that
-- are there.
use Rattle.std.proofs.Common.{◌≡◌, ◌≢◌, ℕ, ◌<◌, ◌≤◌, ◌||◌, ◌++◌, Bool, true, false, not, [], length, map, Option, Some}
use Rattle.std.proofs.Common.{None, inl, inr, refl, sym, ap, ◌∙◌, subst, arith, true≢false}
use Rattle.std.proofs.lemmas.Bool.{cases_lt}
use Rattle.std.proofs.lemmas.List.{get_or_past}
use Rattle.address_map.proofs.CoreSets.{has-zero}
use Rattle.address_map.specs.CoreSet.{has}
use Rattle.address_map.specs.declared.address.CoreId.{CoreId}
use Rattle.address_map.specs.declared.block.Block.{Block}
use Rattle.directory_table.specs.declared.state.DirEntry.{DirEntry}
use Rattle.protocol_coherence.specs.Fit.{is_no_forward}
use Rattle.protocol_coherence.specs.Line.{Forward, fwd_get_m, fwd_get_s, no_forward, Line}
use Rattle.protocol_coherence.specs.LineSteps.{Reached}
use Rattle.slice_core_cache.specs.declared.copy.CacheCopy.{CacheCopy}
use Rattle.slice_core_theory.proofs.Facts.{inv_before_one}
use Rattle.slice_core_theory.specs.Coherent.{HasBoundedChannels}
use Rattle.slice_core_theory.specs.Stands.{AreReached, LineStands, copies_at, queued_forward, queued_inv}
use Rattle.slice_core_theory.specs.Stands.{queued_put_ack}
use Rattle.slice_core_theory.specs.Whole.{IsWhole}
use Rattle.slice_core_spec.specs.View.{View, channels_at, entry_at}
use Rattle.slice_queues.specs.Line.{CoreChannels, HasChannel, LineChannels, ack_messages, core_at, data_messages}
use Rattle.slice_queues.specs.Line.{home_messages, messages_at, no_messages, request_messages, room_of}
use Rattle.slice_queues.specs.declared.channel.Channel.{Channel}
use Rattle.slice_queues.specs.declared.channel.Channel.TheVariants as channels
use Rattle.slice_queues.specs.declared.message.DataMessage.{DataMessage}
use Rattle.slice_queues.specs.declared.message.Message.TheVariants as messages
use Rattle.slice_queues.specs.declared.message.RequestMessage.{RequestMessage}

-- ---- one channel

one_request : (waits : Option RequestMessage) → length (request_messages waits) ≤ 1
one_request None = omega arith
one_request (Some message) = omega arith

one_data : (waits : Option DataMessage) → length (data_messages waits) ≤ 1
one_data None = omega arith
one_data (Some message) = omega arith

one_home : (waits : Option Block) → length (home_messages waits) ≤ 1
one_home None = omega arith
one_home (Some block) = omega arith

one_ack : (waits : Bool) → length (ack_messages waits) ≤ 1
one_ack true = omega arith
one_ack false = omega arith

-- Of an Inv, a forwarded request and a Put-Ack two wait at most, where after an Inv only one of the others does.
two_forwarded : (inv : Bool) (owes_to : ℕ) (asked : Forward) (names : ℕ) (put_ack : Bool)
    → (inv ≡ true → (is_no_forward asked || not put_ack) ≡ true)
    → length (map messages.Forwarded
    (queued_inv inv owes_to ++ (queued_forward asked names ++ queued_put_ack put_ack))) ≤ 2
two_forwarded true owes_to no_forward names true one = omega arith
two_forwarded true owes_to no_forward names false one = omega arith
two_forwarded true owes_to fwd_get_s names true one = absurd (true≢false (sym (one refl)))
two_forwarded true owes_to fwd_get_s names false one = omega arith
two_forwarded true owes_to fwd_get_m names true one = absurd (true≢false (sym (one refl)))
two_forwarded true owes_to fwd_get_m names false one = omega arith
two_forwarded false owes_to no_forward names true one = omega arith
two_forwarded false owes_to no_forward names false one = omega arith
two_forwarded false owes_to fwd_get_s names true one = omega arith
two_forwarded false owes_to fwd_get_s names false one = omega arith
two_forwarded false owes_to fwd_get_m names true one = omega arith
two_forwarded false owes_to fwd_get_m names false one = omega arith

-- ---- one line

module _ (exclusive : Bool) (cores : ℕ) (entry : DirEntry) (mail : LineChannels) (copy : ℕ → CacheCopy) (line : Line)
    (some : 0 < cores) (most : cores ≤ 64) (reached : Reached exclusive cores line)
    (stands : LineStands cores entry mail copy line) (sized : length mail.cores ≡ cores) where
  -- Nothing waits for a core that isn't there.
  nothing_past : (c : ℕ) → length mail.cores ≤ c → core_at mail c ≡ no_messages
  nothing_past c past = get_or_past mail.cores c no_messages past

  room_forwarded : (core : CoreId) → length (messages_at mail (channels.Fwd core)) ≤ 2
  room_forwarded core =
      elim (cases_lt core.0 cores) [
        | inl there ↦
            let part = line.part core.0 in
            subst (λ queue. length (map messages.Forwarded queue) ≤ 2) (sym (stands.part core.0 there).queue)
            (two_forwarded part.look.inv part.owes_to part.look.forward part.names part.look.put_ack
            (inv_before_one exclusive cores line some most reached core.0 there))
        | inr past ↦
            subst (λ (c : CoreChannels). length (map messages.Forwarded c.forwarded) ≤ 2)
            (sym (nothing_past core.0 (rw sized past))) (omega arith)
      ]

  pub line_room : (channel : Channel) → length (messages_at mail channel) ≤ room_of channel
  line_room (channels.Req core) = one_request (core_at mail core.0).request
  line_room (channels.Fwd core) = room_forwarded core
  line_room (channels.Data core) = one_data (core_at mail core.0).data
  line_room (channels.Ack to from) = one_ack (has (core_at mail to.0).acks from.0)
  line_room channels.Home = one_home mail.home

  -- A core for which something waits is there.
  there_if : (c : ℕ) → (core_at mail c ≡ no_messages → ⊥) → c < length mail.cores
  there_if c waits =
      elim (cases_lt c (length mail.cores)) [
        | inl there ↦ there
        | inr past ↦ absurd (waits (nothing_past c past))
      ]

  pub line_known : (channel : Channel) → messages_at mail channel ≢ [] → HasChannel mail channel
  line_known (channels.Req core) waits =
      there_if core.0 (λ none. waits (ap (λ (c : CoreChannels). request_messages c.request) none))
  line_known (channels.Fwd core) waits =
      there_if core.0 (λ none. waits (ap (λ (c : CoreChannels). map messages.Forwarded c.forwarded) none))
  line_known (channels.Data core) waits =
      there_if core.0 (λ none. waits (ap (λ (c : CoreChannels). data_messages c.data) none))
  line_known (channels.Ack to from) waits = by_bit (has (core_at mail to.0).acks from.0) refl
    where
      by_bit : (b : Bool) → has (core_at mail to.0).acks from.0 ≡ b → HasChannel mail (channels.Ack to from)
      by_bit true is = (
        there_if to.0
            (λ none. true≢false (sym is ∙ ap (λ (c : CoreChannels). has c.acks from.0) none ∙ has-zero from.0)),
        rw sized (stands.acks.senders to.0 from.0 is),
      )
      by_bit false is = absurd (waits (ap ack_messages is))
  line_known channels.Home waits = tt

-- ---- the slice

pub bounded : (v : View) → IsWhole v → 0 < length v.caches → AreReached v → HasBoundedChannels v
bounded v whole some all = record {
  cores = whole.shaped.cores;
  room = λ local channel inside.
      let line = all local inside in
      line_room v.exclusive (length v.caches) (entry_at v local) (channels_at v local) (copies_at v local) line.0 some
      whole.few line.1 line.2 (whole.shaped.cores local inside) channel;
  known = λ local channel inside.
      let line = all local inside in
      line_known v.exclusive (length v.caches) (entry_at v local) (channels_at v local) (copies_at v local) line.0 some
      whole.few line.1 line.2 (whole.shaped.cores local inside) channel;
}
