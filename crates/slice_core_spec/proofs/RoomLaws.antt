-- The tests for room, as what they say of a line's channels.
use Rattle.std.proofs.Common.{◌≡◌, ◌≢◌, ◌∙◌, None, ℕ, ◌^◌, ◌<◌, ◌&&◌, Bool, true, false, List, [], ◌∷◌, length, map}
use Rattle.std.proofs.Common.{refl, ap, subst, sym, nat_lt, inl, inr}
use Rattle.std.specs.List.{AllByRecursion, list_all}
use Rattle.std.proofs.Math.ListN.{length-set}
use Rattle.std.proofs.lemmas.Bool.{lt-ltb, ltb-true, cases_eq}
use Rattle.std.proofs.lemmas.List.{get_or-set_same, get_or-set_other}
use Rattle.address_map.specs.declared.address.CoreId.{CoreId}
use Rattle.address_map.specs.CoreSet.{members}
use Rattle.slice_queues.specs.declared.channel.Channel.{Channel}
use Rattle.slice_queues.specs.declared.channel.Channel.TheVariants as channels
use Rattle.slice_queues.specs.declared.message.DataMessage.{DataMessage}
use Rattle.slice_queues.specs.declared.message.ForwardedMessage.{ForwardedMessage}
use Rattle.slice_queues.specs.declared.message.Message.TheVariants as messages
use Rattle.slice_queues.proofs.InvalidateLaws.{TakesForwarded, TakesInvalidations-from_members}
use Rattle.slice_queues.proofs.WaitingLaws.{AllByRecursion-members}
use Rattle.slice_queues.specs.Line.{LineChannels, no_messages, core_at, after_take, HasChannel, HasRoom}
use Rattle.slice_queues.specs.Line.{TakesInvalidations, after_send, messages_at, room_of}
use Rattle.slice_queues.proofs.LineLaws.{request_alone, forwarded_alone}
use Rattle.cache_table.specs.declared.row.CacheSends.{CacheSends}
use Rattle.cache_table.specs.declared.row.CacheSends.TheVariants as cache_sends
use Rattle.directory_table.specs.declared.row.DirSends.{DirSends}
use Rattle.directory_table.specs.declared.row.DirSends.TheVariants as dir_sends
use Rattle.slice_core_spec.specs.Sends.{cache_room, directory_room, has_channel, takes, takes_invalidations}

-- tests that are true together are one test
pub same_test : (a b : Bool) → (a ≡ true → b ≡ true) → (b ≡ true → a ≡ true) → a ≡ b
same_test true b there back = sym (there refl)
same_test false true there back = back refl
same_test false false there back = refl

pub both_true : (a b : Bool) → (a && b) ≡ true → (a ≡ true) × (b ≡ true)
both_true true b e = (refl, e)
both_true false b e = absurd (cc e)

-- the test of a channel's presence
has_channel-from : (line : LineChannels) (channel : Channel) → HasChannel line channel → has_channel line channel ≡ true
has_channel-from line (channels.Req core) there = lt-ltb core.0 (length line.cores) there
has_channel-from line (channels.Fwd core) there = lt-ltb core.0 (length line.cores) there
has_channel-from line (channels.Data core) there = lt-ltb core.0 (length line.cores) there
has_channel-from line (channels.Ack to from) there =
    rw (lt-ltb to.0 (length line.cores) there.0, lt-ltb from.0 (length line.cores) there.1) refl
has_channel-from line channels.Home there = refl

has_channel-there : (line : LineChannels) (channel : Channel) →
    has_channel line channel ≡ true → HasChannel line channel
has_channel-there line (channels.Req core) e = ltb-true core.0 (length line.cores) e
has_channel-there line (channels.Fwd core) e = ltb-true core.0 (length line.cores) e
has_channel-there line (channels.Data core) e = ltb-true core.0 (length line.cores) e
has_channel-there line (channels.Ack to from) e =
    let parts = both_true (nat_lt to.0 (length line.cores)) (nat_lt from.0 (length line.cores)) e in
    (ltb-true to.0 (length line.cores) parts.0, ltb-true from.0 (length line.cores) parts.1)
has_channel-there line channels.Home e = tt

-- a channel takes another message just where the line has it and it has room
pub takes-from : (line : LineChannels) (channel : Channel) → HasChannel line channel → HasRoom line channel →
    takes line channel ≡ true
unfolding takes
takes-from line channel there room =
    rw (has_channel-from line channel there) (lt-ltb (length (messages_at line channel)) (room_of channel) room)

pub takes-there : (line : LineChannels) (channel : Channel) → takes line channel ≡ true →
    HasChannel line channel × HasRoom line channel
unfolding takes
takes-there line channel e =
    let parts = both_true (has_channel line channel) (nat_lt (length (messages_at line channel)) (room_of channel)) e in
    (has_channel-there line channel parts.0, ltb-true (length (messages_at line channel)) (room_of channel) parts.1)

-- each core of a set takes an invalidation just where the test of the set's list says so
each-from_list : (line : LineChannels) (cores : List ℕ) →
    list_all (λ core. takes line (channels.Fwd (record { 0 = core }))) cores ≡ true →
    AllByRecursion (TakesForwarded line) cores
each-from_list line [] e = tt
each-from_list line (core ∷ cores) e =
    let parts = both_true
    (takes line (channels.Fwd (record { 0 = core })))
    (list_all (λ core. takes line (channels.Fwd (record { 0 = core }))) cores)
    e in
    (takes-there line (channels.Fwd (record { 0 = core })) parts.0, each-from_list line cores parts.1)

list-from_each : (line : LineChannels) (cores : List ℕ) → AllByRecursion (TakesForwarded line) cores →
    list_all (λ core. takes line (channels.Fwd (record { 0 = core }))) cores ≡ true
list-from_each line [] all = refl
list-from_each line (core ∷ cores) all =
    rw (takes-from line (channels.Fwd (record { 0 = core })) all.0.0 all.0.1) (list-from_each line cores all.1)

pub takes_invalidations-from : (line : LineChannels) (cores : ℕ) → TakesInvalidations line cores →
    takes_invalidations line cores ≡ true
unfolding takes_invalidations
takes_invalidations-from line cores takes =
    list-from_each line (members cores)
    (AllByRecursion-members (TakesForwarded line) cores (λ core there. takes (record { 0 = core }) there))

pub takes_invalidations-there : (line : LineChannels) (cores : ℕ) → cores < 2 ^ 64 →
    takes_invalidations line cores ≡ true → TakesInvalidations line cores
unfolding takes_invalidations
takes_invalidations-there line cores fits e =
    TakesInvalidations-from_members line cores fits (each-from_list line (members cores) e)

-- data to a core leave the forwarded channels as they are
forwarded-after_data : (line : LineChannels) (core : CoreId) (message : DataMessage) (other : ℕ) →
    other < length line.cores →
    (core_at (after_send line (channels.Data core) (messages.Data message)) other).forwarded
    ≡ (core_at line other).forwarded
forwarded-after_data line core message other there =
    elim (cases_eq other core.0) [
      | inl same ↦
          let within : core.0 < length line.cores = rw same at there in
          rw same (ap (λ k. k.forwarded) (get_or-set_same line.cores core.0 _ no_messages within))
      | inr apart ↦ ap (λ k. k.forwarded) (get_or-set_other line.cores core.0 other _ no_messages apart)
    ]

-- so there is as much room there after data were sent
pub TakesInvalidations-after_data : (line : LineChannels) (core : CoreId) (message : DataMessage) (cores : ℕ) →
    TakesInvalidations line cores →
    TakesInvalidations (after_send line (channels.Data core) (messages.Data message)) cores
TakesInvalidations-after_data line core message cores takes other there =
    let before = takes other there in
    let kept = forwarded-after_data line core message other.0 before.0 in
    let Fits : List ForwardedMessage → Type 0 = λ queued. length (map messages.Forwarded queued) < 2 in
    (rw length-set before.0, subst Fits (sym kept) before.1)

-- a channel that has what it had takes another message as it did
pub takes-kept : (old new : LineChannels) (channel : Channel) → length new.cores ≡ length old.cores →
    messages_at new channel ≡ messages_at old channel → takes new channel ≡ takes old channel
unfolding takes
takes-kept old new channel same kept =
    let there : has_channel new channel ≡ has_channel old channel = by_channel channel in
    rw (there, kept) refl
  where
    by_channel : (named : Channel) → has_channel new named ≡ has_channel old named
    by_channel (channels.Req core) = rw same refl
    by_channel (channels.Fwd core) = rw same refl
    by_channel (channels.Data core) = rw same refl
    by_channel (channels.Ack to from) = rw same refl
    by_channel channels.Home = refl

list_all-same : (p q : ℕ → Bool) (cores : List ℕ) → ((core : ℕ) → p core ≡ q core) → list_all p cores ≡ list_all q cores
list_all-same p q [] same = refl
list_all-same p q (core ∷ cores) same = rw (same core, list_all-same p q cores same) refl

-- so do the forwarded channels of a set
pub takes_invalidations-kept : (old new : LineChannels) (cores : ℕ) → length new.cores ≡ length old.cores →
    ((core : CoreId) → messages_at new (channels.Fwd core) ≡ messages_at old (channels.Fwd core)) →
    takes_invalidations new cores ≡ takes_invalidations old cores
unfolding takes_invalidations
takes_invalidations-kept old new cores same kept =
    list_all-same _ _ (members cores)
    (λ core. takes-kept old new (channels.Fwd (record { 0 = core })) same (kept (record { 0 = core })))

-- where a request is taken, there is room as before for what the directory's row sends
pub directory_room-after_request : (line : LineChannels) (core : CoreId) (sends : DirSends) →
    directory_room line core sends ≡ true → directory_room (after_take line (channels.Req core)) core sends ≡ true
directory_room-after_request line core sends room = same sends ∙ room
  where
    taken : LineChannels
    taken = after_take line (channels.Req core)

    one : (channel : Channel) → channel ≢ channels.Req core → takes taken channel ≡ takes line channel
    one channel apart =
        takes-kept line taken channel (simp length-set) (request_alone line core None channel apart)

    same : (sent : DirSends) → directory_room taken core sent ≡ directory_room line core sent
    same dir_sends.Nothing = refl
    same (dir_sends.Data acks) = one (channels.Data core) (λ e. cc)
    same dir_sends.DataE = one (channels.Data core) (λ e. cc)
    same (dir_sends.DataAndInv acks invalidated) =
        rw (
          one (channels.Data core) (λ e. cc),
          takes_invalidations-kept line taken invalidated (simp length-set)
              (λ other. request_alone line core None (channels.Fwd other) (λ e. cc)),
        ) refl
    same (dir_sends.FwdGetS owner) = one (channels.Fwd owner) (λ e. cc)
    same (dir_sends.FwdGetM owner) = one (channels.Fwd owner) (λ e. cc)
    same dir_sends.PutAck = one (channels.Fwd core) (λ e. cc)

-- where a forwarded message is taken, there is room as before for what the cache's row sends
pub cache_room-after_forwarded : (line : LineChannels) (core requester : CoreId) (sends : CacheSends) →
    cache_room line core requester sends ≡ true →
    cache_room (after_take line (channels.Fwd core)) core requester sends ≡ true
cache_room-after_forwarded line core requester sends room = same sends ∙ room
  where
    taken : LineChannels
    taken = after_take line (channels.Fwd core)

    one : (channel : Channel) → channel ≢ channels.Fwd core → takes taken channel ≡ takes line channel
    one channel apart =
        takes-kept line taken channel (simp length-set) (forwarded_alone line core _ channel apart)

    same : (sent : CacheSends) → cache_room taken core requester sent ≡ cache_room line core requester sent
    same cache_sends.DataToRequester = one (channels.Data requester) (λ e. cc)
    same cache_sends.DataToRequesterAndHome =
        rw (one (channels.Data requester) (λ e. cc), one channels.Home (λ e. cc)) refl
    same cache_sends.InvAckToRequester = one (channels.Ack requester core) (λ e. cc)
    same cache_sends.Nothing = refl
    same cache_sends.GetS = refl
    same cache_sends.GetM = refl
    same cache_sends.PutS = refl
    same cache_sends.PutM = refl
