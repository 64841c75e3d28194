-- What a message that is sent or taken leaves of the requests of a line: each is as it was, but for the request itself.
use Rattle.std.proofs.Common.{◌≡◌, ◌≢◌, ℕ, ◌<◌, Bool, true, false, if◌then◌else◌, length, set, Option, Some, None, inl}
use Rattle.std.proofs.Common.{inr, refl, sym, ap, ◌∙◌}
use Rattle.std.proofs.lemmas.Bool.{cases_Bool, cases_lt}
use Rattle.std.proofs.lemmas.List.{get_or_past, get_or-set_same, get_or-set_other}
use Rattle.std.proofs.lemmas.List.FromFn.{length-map-range_with_len}
use Rattle.address_map.specs.CoreSet.{has}
use Rattle.address_map.specs.declared.address.CoreId.{CoreId}
use Rattle.address_map.specs.declared.block.Block.{Block}
use Rattle.cache_table.specs.declared.row.CacheSends.{CacheSends}
use Rattle.cache_table.specs.declared.row.CacheSends.TheVariants as cache_sends
use Rattle.directory_table.specs.declared.row.DirSends.{DirSends}
use Rattle.directory_table.specs.declared.row.DirSends.TheVariants as dir_sends
use Rattle.slice_core_spec.specs.Sends.{cache_sent, directory_sent}
use Rattle.slice_core_spec.specs.Steps.{asked_by}
use Rattle.slice_core.proofs.LinksStates.{asked_then}
use Rattle.slice_queues.proofs.InvalidateLaws.{core_at-after_invalidating, core_at-not_invalidated}
use Rattle.slice_queues.proofs.LineLaws.{read-set_unchanged}
use Rattle.slice_queues.specs.Line.{CoreChannels, LineChannels, no_messages, core_at, with_core, after_send, after_take}
use Rattle.slice_queues.specs.Line.{after_invalidating, with_invalidation}
use Rattle.slice_queues.specs.declared.channel.Channel.TheVariants as channels
use Rattle.slice_queues.specs.declared.message.DataMessage.{DataMessage}
use Rattle.slice_queues.specs.declared.message.DataMessage.TheVariants as data_messages
use Rattle.slice_queues.specs.declared.message.ForwardedMessage.{ForwardedMessage}
use Rattle.slice_queues.specs.declared.message.Message.TheVariants as messages
use Rattle.slice_queues.specs.declared.message.RequestMessage.{RequestMessage}
use Rattle.slice_queues.specs.declared.message.RequestMessage.TheVariants as request_messages

-- what the core with this number asks of the directory
abbrev pub asked : LineChannels → ℕ → Option RequestMessage
asked line core = (core_at line core).request

-- a core's channels with the same request leave each core's request as it was
asked-with_core : (line : LineChannels) (core other : ℕ) (now : CoreChannels) → now.request ≡ asked line core →
    asked (with_core line core now) other ≡ asked line other
asked-with_core line core other now same =
    read-set_unchanged (λ (c : CoreChannels). c.request) line.cores core other now no_messages same

-- ---- the request itself

module _ (line : LineChannels) (core : CoreId) (there : core.0 < length line.cores) where
  pub asked-sent : (message : RequestMessage) → asked (after_send line (channels.Req core) (messages.Request message))
      core.0 ≡ Some message
  asked-sent message =
      ap (λ (c : CoreChannels). c.request)
      (get_or-set_same line.cores core.0 (record (core_at line core.0) { request = Some message }) no_messages there)

  pub asked-taken : asked (after_take line (channels.Req core)) core.0 ≡ None
  asked-taken =
      ap (λ (c : CoreChannels). c.request)
      (get_or-set_same line.cores core.0 (record (core_at line core.0) { request = None }) no_messages there)

module _ (line : LineChannels) (core : CoreId) (other : ℕ) (apart : other ≢ core.0) where
  pub asked-sent_other : (message : RequestMessage) →
      asked (after_send line (channels.Req core) (messages.Request message)) other ≡ asked line other
  asked-sent_other message =
      ap (λ (c : CoreChannels). c.request)
      (get_or-set_other line.cores core.0 other (record (core_at line core.0) { request = Some message }) no_messages
      apart)

  pub asked-taken_other : asked (after_take line (channels.Req core)) other ≡ asked line other
  asked-taken_other =
      ap (λ (c : CoreChannels). c.request)
      (get_or-set_other line.cores core.0 other (record (core_at line core.0) { request = None }) no_messages apart)

-- ---- all other messages

module _ (line : LineChannels) (core : CoreId) (other : ℕ) where
  pub asked-forwarded : (message : ForwardedMessage) →
      asked (after_send line (channels.Fwd core) (messages.Forwarded message)) other ≡ asked line other
  asked-forwarded message = asked-with_core line core.0 other _ refl

  pub asked-data : (message : DataMessage) →
      asked (after_send line (channels.Data core) (messages.Data message)) other ≡ asked line other
  asked-data message = asked-with_core line core.0 other _ refl

  pub asked-forwarded_taken : asked (after_take line (channels.Fwd core)) other ≡ asked line other
  asked-forwarded_taken = asked-with_core line core.0 other _ refl

  pub asked-data_taken : asked (after_take line (channels.Data core)) other ≡ asked line other
  asked-data_taken = asked-with_core line core.0 other _ refl

  pub asked-ack : (from : CoreId) → asked (after_send line (channels.Ack core from) messages.InvAck) other
      ≡ asked line other
  asked-ack from = asked-with_core line core.0 other _ refl

  pub asked-ack_taken : (from : CoreId) → asked (after_take line (channels.Ack core from)) other ≡ asked line other
  asked-ack_taken from = asked-with_core line core.0 other _ refl

  -- an invalidation of many asks for nothing
  pub asked-invalidating : (set : ℕ) → asked (after_invalidating line set core) other ≡ asked line other
  asked-invalidating set =
      elim (cases_Bool (has set other)) [
        | inl named ↦
            elim (cases_lt other (length line.cores)) [
              | inl there ↦
                  ap (λ (c : CoreChannels). c.request) (core_at-after_invalidating line set core other there)
                  ∙ rw named refl
              | inr past ↦
                  ap (λ (c : CoreChannels). c.request)
                  (get_or_past (after_invalidating line set core).cores other no_messages
                  (rw (length-map-range_with_len (λ k. if has set k then with_invalidation core (core_at line k) else
                  core_at line k) 0 (length line.cores)) past)
                  ∙ sym (get_or_past line.cores other no_messages past))
            ]
        | inr apart ↦ ap (λ (c : CoreChannels). c.request) (core_at-not_invalidated line set core other apart)
      ]

-- Nothing that the directory sends is a request.
pub asked-directory_sent : (line : LineChannels) (core : CoreId) (other : ℕ) (block : Block) (sent : DirSends) →
    asked (directory_sent line core block sent) other ≡ asked line other
asked-directory_sent line core other block dir_sends.Nothing = refl
asked-directory_sent line core other block (dir_sends.Data acks) = asked-data line core other _
asked-directory_sent line core other block dir_sends.DataE = asked-data line core other _
asked-directory_sent line core other block (dir_sends.DataAndInv acks invalidated) =
    let reply = data_messages.Data block acks in
    asked-invalidating (after_send line (channels.Data core) (messages.Data reply)) core other invalidated
    ∙ asked-data line core other reply
asked-directory_sent line core other block (dir_sends.FwdGetS owner) = asked-forwarded line owner other _
asked-directory_sent line core other block (dir_sends.FwdGetM owner) = asked-forwarded line owner other _
asked-directory_sent line core other block dir_sends.PutAck = asked-forwarded line core other _

-- Nothing that a row of the cache's table sends from a core that answers is a request.
pub asked-cache_sent : (line : LineChannels) (core requester : CoreId) (other : ℕ) (block : Block) (sent : CacheSends) →
    asked (cache_sent line core requester block sent) other ≡ asked line other
asked-cache_sent line core requester other block cache_sends.DataToRequester = asked-data line requester other _
asked-cache_sent line core requester other block cache_sends.DataToRequesterAndHome = asked-data line requester other _
asked-cache_sent line core requester other block cache_sends.InvAckToRequester = asked-ack line requester other core
asked-cache_sent line core requester other block _ = refl

-- Where the right to write is asked for, that is what the core asks for.
pub asked-asked_by : (write : Bool) (line : LineChannels) (core : CoreId) → core.0 < length line.cores →
    asked (asked_by write line core) core.0 ≡ asked_then write (asked line core.0)
unfolding asked_then
asked-asked_by true line core there = asked-sent line core there request_messages.GetM
asked-asked_by false line core there = refl

pub asked-asked_by_other : (write : Bool) (line : LineChannels) (core : CoreId) (other : ℕ) → other ≢ core.0 →
    asked (asked_by write line core) other ≡ asked line other
asked-asked_by_other true line core other apart = asked-sent_other line core other apart request_messages.GetM
asked-asked_by_other false line core other apart = refl
