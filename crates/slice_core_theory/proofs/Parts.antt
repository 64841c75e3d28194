-- How a core's part stands after a message comes to it, or after one of its messages is taken.
use Rattle.std.proofs.Common.{◌≡◌, ℕ, ◌&&◌, Bool, true, false, not, List, [], ◌∷◌, ◌++◌, drop, refl, sym, ap, ◌∙◌}
use Rattle.std.proofs.Common.{true≢false, Option, Some, None, slice_get}
use Rattle.address_map.specs.declared.address.CoreId.{CoreId}
use Rattle.slice_core_theory.specs.Stands.{PartStands, kind_of_data, kind_of_request, named_by, queued_forward}
use Rattle.slice_core_theory.specs.Stands.{queued_inv, queued_put_ack}
use Rattle.protocol_coherence.specs.Fit.{is_counting, is_no_forward, is_put_ack_first}
use Rattle.protocol_coherence.specs.Line.{Forward, fwd_get_m, fwd_get_s, no_forward, no_data, Part}
use Rattle.slice_core_spec.specs.Plan.{event_of_forwarded}
use Rattle.protocol_coherence.specs.LineSteps.{invalidated_by, stands, look_after_take}
use Rattle.protocol_coherence.specs.Promise.{has_room_for_forward, has_room_for_inv}
use Rattle.slice_core_cache.specs.declared.copy.CacheCopy.{CacheCopy}
use Rattle.slice_queues.specs.Line.{CoreChannels, with_invalidation}
use Rattle.slice_queues.specs.declared.message.DataMessage.{DataMessage}
use Rattle.slice_queues.specs.declared.message.ForwardedMessage.{ForwardedMessage}
use Rattle.slice_queues.specs.declared.message.ForwardedMessage.TheVariants as forwarded_messages
use Rattle.slice_queues.specs.declared.message.RequestMessage.{RequestMessage}

-- ---- requests

-- the part whose request channel holds this
abbrev pub with_request : Option RequestMessage → Part → Part
with_request message part = record part { look = record part.look { request = kind_of_request message } }

pub request_stands : (copy : CacheCopy) (mail : CoreChannels) (part : Part) (message : Option RequestMessage)
    → PartStands copy mail part → PartStands copy (record mail { request = message }) (with_request message part)
request_stands copy mail part message stands = record {
  state = stands.state;
  request = refl;
  incoming = stands.incoming;
  queue = stands.queue;
  named = stands.named;
  wants = stands.wants;
  counted = stands.counted;
}

-- ---- data

-- the part for which these data wait
abbrev pub with_data : DataMessage → Part → Part
with_data message part =
    record part { look = record part.look { incoming = kind_of_data (Some message) }; wants = named_by message }

pub data_stand : (copy : CacheCopy) (mail : CoreChannels) (part : Part) (message : DataMessage)
    → is_counting part.look.state ≡ false → PartStands copy mail part
    → PartStands copy (record mail { «data» = Some message }) (with_data message part)
data_stand copy mail part message not_counting stands = record {
  state = stands.state;
  request = stands.request;
  incoming = refl;
  queue = stands.queue;
  named = refl;
  wants = λ h. absurd (true≢false (sym h ∙ not_counting));
  counted = stands.counted;
}

pub data_taken : (copy : CacheCopy) (mail : CoreChannels) (part : Part) → PartStands copy mail part
    → PartStands copy (record mail { «data» = None }) (record part { look = record part.look { incoming = no_data } })
data_taken copy mail part stands = record {
  state = stands.state;
  request = stands.request;
  incoming = refl;
  queue = stands.queue;
  named = tt;
  wants = stands.wants;
  counted = stands.counted;
}

-- ---- the forwarded channel

-- the slots as a list
abbrev slots : Bool → ℕ → Forward → ℕ → Bool → List ForwardedMessage
slots inv owes_to asked names put_ack =
    queued_inv inv owes_to ++ (queued_forward asked names ++ queued_put_ack put_ack)

-- Another queue, and slots that are the same.
queue_stands : (copy : CacheCopy) (mail : CoreChannels) (part : Part) (queue : List ForwardedMessage) (inv : Bool)
    (owes_to : ℕ) (asked : Forward) (names : ℕ) (put_ack : Bool) → queue ≡ slots inv owes_to asked names put_ack
    → PartStands copy mail part
    → PartStands copy (record mail { forwarded = queue }) (record part {
      look = record part.look { inv = inv; forward = asked; put_ack = put_ack };
      owes_to = owes_to;
      names = names;
    })
queue_stands copy mail part queue inv owes_to asked names put_ack same stands = record {
  state = stands.state;
  request = stands.request;
  incoming = stands.incoming;
  queue = same;
  named = stands.named;
  wants = stands.wants;
  counted = stands.counted;
}

inv_behind : (inv : Bool) (asked : Forward) (put_ack : Bool) (owes_to names : ℕ) (core : CoreId)
    → (not inv && is_no_forward asked && not put_ack) ≡ true
    → slots inv owes_to asked names put_ack ++ forwarded_messages.Inv core ∷ [] ≡ slots true core.0 asked names put_ack
inv_behind false no_forward false owes_to names core room = refl
inv_behind false no_forward true owes_to names core room = absurd (true≢false (sym room))
inv_behind false fwd_get_s put_ack owes_to names core room = absurd (true≢false (sym room))
inv_behind false fwd_get_m put_ack owes_to names core room = absurd (true≢false (sym room))
inv_behind true asked put_ack owes_to names core room = absurd (true≢false (sym room))

pub inv_stands : (copy : CacheCopy) (mail : CoreChannels) (part : Part) (core : CoreId)
    → has_room_for_inv part.look ≡ true → PartStands copy mail part
    → PartStands copy (with_invalidation core mail) (invalidated_by core.0 part)
inv_stands copy mail part core room stands =
    queue_stands copy mail part (mail.forwarded ++ forwarded_messages.Inv core ∷ []) true core.0 part.look.forward
    part.names
    part.look.put_ack
    (ap (λ q. q ++ forwarded_messages.Inv core ∷ []) stands.queue
    ∙ inv_behind part.look.inv part.look.forward part.look.put_ack part.owes_to part.names core room)
    stands

-- the message that asks for the line in this core's name, as the kind says
abbrev pub request_for : Forward → CoreId → ForwardedMessage
request_for fwd_get_s core = forwarded_messages.FwdGetS core
request_for fwd_get_m core = forwarded_messages.FwdGetM core
request_for no_forward core = forwarded_messages.PutAck

forward_behind : (inv : Bool) (asked : Forward) (put_ack : Bool) (owes_to names : ℕ) (kind : Forward) (core : CoreId)
    → is_no_forward kind ≡ false → (is_no_forward asked && not put_ack) ≡ true
    → slots inv owes_to asked names put_ack ++ request_for kind core ∷ [] ≡ slots inv owes_to kind core.0 put_ack
forward_behind true no_forward false owes_to names fwd_get_s core asks room = refl
forward_behind false no_forward false owes_to names fwd_get_s core asks room = refl
forward_behind true no_forward false owes_to names fwd_get_m core asks room = refl
forward_behind false no_forward false owes_to names fwd_get_m core asks room = refl
forward_behind inv no_forward false owes_to names no_forward core asks room = absurd (true≢false asks)
forward_behind inv no_forward true owes_to names kind core asks room = absurd (true≢false (sym room))
forward_behind inv fwd_get_s put_ack owes_to names kind core asks room = absurd (true≢false (sym room))
forward_behind inv fwd_get_m put_ack owes_to names kind core asks room = absurd (true≢false (sym room))

-- the part that is asked for the line in this core's name
abbrev pub with_forward : Forward → ℕ → Part → Part
with_forward kind core part = record part { look = record part.look { forward = kind }; names = core }

pub forward_stands : (copy : CacheCopy) (mail : CoreChannels) (part : Part) (kind : Forward) (core : CoreId)
    → is_no_forward kind ≡ false → has_room_for_forward part.look ≡ true → PartStands copy mail part
    → PartStands copy (record mail { forwarded = mail.forwarded ++ request_for kind core ∷ [] })
    (with_forward kind core.0 part)
forward_stands copy mail part kind core asks room stands =
    queue_stands copy mail part (mail.forwarded ++ request_for kind core ∷ []) part.look.inv part.owes_to kind core.0
    part.look.put_ack
    (ap (λ q. q ++ request_for kind core ∷ []) stands.queue
    ∙ forward_behind part.look.inv part.look.forward part.look.put_ack part.owes_to part.names kind core asks room)
    stands

put_ack_behind : (inv : Bool) (asked : Forward) (put_ack : Bool) (owes_to names : ℕ) → not put_ack ≡ true
    → slots inv owes_to asked names put_ack ++ forwarded_messages.PutAck ∷ [] ≡ slots inv owes_to asked names true
put_ack_behind true no_forward false owes_to names room = refl
put_ack_behind true fwd_get_s false owes_to names room = refl
put_ack_behind true fwd_get_m false owes_to names room = refl
put_ack_behind false no_forward false owes_to names room = refl
put_ack_behind false fwd_get_s false owes_to names room = refl
put_ack_behind false fwd_get_m false owes_to names room = refl
put_ack_behind inv asked true owes_to names room = absurd (true≢false (sym room))

pub put_ack_stands : (copy : CacheCopy) (mail : CoreChannels) (part : Part) → not part.look.put_ack ≡ true
    → PartStands copy mail part
    → PartStands copy (record mail { forwarded = mail.forwarded ++ forwarded_messages.PutAck ∷ [] })
    (record part { look = record part.look { put_ack = true } })
put_ack_stands copy mail part room stands =
    queue_stands copy mail part (mail.forwarded ++ forwarded_messages.PutAck ∷ []) part.look.inv part.owes_to
    part.look.forward
    part.names true
    (ap (λ q. q ++ forwarded_messages.PutAck ∷ []) stands.queue
    ∙ put_ack_behind part.look.inv part.look.forward part.look.put_ack part.owes_to part.names room)
    stands

-- ---- the oldest message

-- What the oldest message says of the slots.
abbrev pub IsFirst : ForwardedMessage → Part → Type 0
IsFirst (forwarded_messages.Inv core) part = (part.look.inv ≡ true) × (part.owes_to ≡ core.0)
IsFirst (forwarded_messages.FwdGetS core) part =
    (part.look.inv ≡ false) × (part.look.forward ≡ fwd_get_s) × (part.names ≡ core.0)
IsFirst (forwarded_messages.FwdGetM core) part =
    (part.look.inv ≡ false) × (part.look.forward ≡ fwd_get_m) × (part.names ≡ core.0)
IsFirst forwarded_messages.PutAck part =
    (part.look.inv ≡ false) × (part.look.forward ≡ no_forward) × (part.look.put_ack ≡ true)

-- the core that a message names, or none
named_in : Option ForwardedMessage → ℕ
named_in (Some (forwarded_messages.Inv core)) = core.0
named_in (Some (forwarded_messages.FwdGetS core)) = core.0
named_in (Some (forwarded_messages.FwdGetM core)) = core.0
named_in _ = 0

first_of_slots : (inv : Bool) (asked : Forward) (put_ack : Bool) (part : Part) (message : ForwardedMessage)
    → part.look.inv ≡ inv → part.look.forward ≡ asked → part.look.put_ack ≡ put_ack
    → slice_get (slots inv part.owes_to asked part.names put_ack) 0 ≡ Some message → IsFirst message part
unfolding named_in
first_of_slots true asked put_ack part (forwarded_messages.Inv core) i f p e = (i, ap named_in e)
first_of_slots false fwd_get_s put_ack part (forwarded_messages.FwdGetS core) i f p e = (i, f, ap named_in e)
first_of_slots false fwd_get_m put_ack part (forwarded_messages.FwdGetM core) i f p e = (i, f, ap named_in e)
first_of_slots false no_forward true part forwarded_messages.PutAck i f p e = (i, f, p)
first_of_slots _ _ _ part _ i f p e = absurd (cc e)

-- The oldest message of the channel is the first that is in the slots.
pub first_stands : (copy : CacheCopy) (mail : CoreChannels) (part : Part) (message : ForwardedMessage)
    → slice_get mail.forwarded 0 ≡ Some message → PartStands copy mail part → IsFirst message part
first_stands copy mail part message is stands =
    first_of_slots part.look.inv part.look.forward part.look.put_ack part message refl refl refl
    (sym (ap (λ (q : List ForwardedMessage). slice_get q 0) stands.queue) ∙ is)

-- So the machine has its event at hand.
pub first_at_hand : (message : ForwardedMessage) (part : Part) → IsFirst message part
    → stands part (event_of_forwarded message) ≡ true
unfolding is_put_ack_first
first_at_hand (forwarded_messages.Inv core) part first = first.0
first_at_hand (forwarded_messages.FwdGetS core) part first = rw (first.0, first.1) refl
first_at_hand (forwarded_messages.FwdGetM core) part first = rw (first.0, first.1) refl
first_at_hand forwarded_messages.PutAck part first = rw (first.0, first.1, first.2) refl

-- The queue is the slots again, once the oldest message is taken.
pub first_taken : (copy : CacheCopy) (mail : CoreChannels) (part : Part) (message : ForwardedMessage)
    → IsFirst message part → PartStands copy mail part
    → PartStands copy (record mail { forwarded = drop 1 mail.forwarded })
    (record part { look = look_after_take (event_of_forwarded message) part.look })
first_taken copy mail part (forwarded_messages.Inv core) first stands =
    queue_stands copy mail part (drop 1 mail.forwarded) false part.owes_to part.look.forward part.names
    part.look.put_ack
    (ap (drop 1) stands.queue
    ∙ ap (λ b. drop 1 (slots b part.owes_to part.look.forward part.names part.look.put_ack)) first.0)
    stands
first_taken copy mail part (forwarded_messages.FwdGetS core) first stands =
    queue_stands copy mail part (drop 1 mail.forwarded) part.look.inv part.owes_to no_forward part.names
    part.look.put_ack
    (ap (drop 1) stands.queue
    ∙ ap (λ f. drop 1 (slots part.look.inv part.owes_to f part.names part.look.put_ack)) first.1
    ∙ rw first.0 refl)
    stands
first_taken copy mail part (forwarded_messages.FwdGetM core) first stands =
    queue_stands copy mail part (drop 1 mail.forwarded) part.look.inv part.owes_to no_forward part.names
    part.look.put_ack
    (ap (drop 1) stands.queue
    ∙ ap (λ f. drop 1 (slots part.look.inv part.owes_to f part.names part.look.put_ack)) first.1
    ∙ rw first.0 refl)
    stands
first_taken copy mail part forwarded_messages.PutAck first stands =
    queue_stands copy mail part (drop 1 mail.forwarded) part.look.inv part.owes_to part.look.forward part.names false
    (ap (drop 1) stands.queue
    ∙ ap (λ b. drop 1 (slots part.look.inv part.owes_to part.look.forward part.names b)) first.2
    ∙ rw (first.0, first.1) refl)
    stands
