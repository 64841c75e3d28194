-- A send and a take change their own channel alone.
use Rattle.std.proofs.Common.{rules, eq-eqb, eqb-true, ◌≡◌, ◌≢◌, ℕ, ◌<◌, ◌≤◌, Bool, true, false, List, [], ◌∷◌, ◌++◌}
use Rattle.std.proofs.Common.{length, map, drop, refl, ap, sym, ◌∙◌, subst, arith, Option, Some, None, zero, suc}
use Rattle.std.proofs.Common.{replicate, get_or, ◌⊎◌, inl, inr}
use Rattle.std.proofs.Math.ListN.{set, length-set}
use Rattle.std.proofs.lemmas.List.{get_or-set_same, get_or-set_other, get_or_past, set-get_or, length-map}
use Rattle.std.proofs.lemmas.List.{length-replicate, map-append}
use Rattle.std.proofs.lemmas.Bool.{cases_eq}
use borrow.Author.Tests.{ltb-true}
use Rattle.address_map.specs.declared.address.CoreId.{CoreId}
use Rattle.address_map.specs.declared.block.Block.{Block}
use Rattle.slice_queues.specs.declared.channel.Channel.{Channel}
use Rattle.slice_queues.specs.declared.channel.Channel.TheVariants as channels
use Rattle.slice_queues.specs.declared.message.Message.{Message}
use Rattle.slice_queues.specs.declared.message.Message.TheVariants as messages
use Rattle.slice_queues.specs.declared.message.RequestMessage.{RequestMessage}
use Rattle.slice_queues.specs.declared.message.ForwardedMessage.{ForwardedMessage}
use Rattle.slice_queues.specs.declared.message.DataMessage.{DataMessage}
use Rattle.address_map.specs.CoreSet.{has, with, without}
use Rattle.slice_queues.specs.Waiting.{is_from_core, is_same_channel}
use Rattle.slice_queues.specs.Line.{CoreChannels, LineChannels, no_messages, core_at, with_core, request_messages}
use Rattle.slice_queues.specs.Line.{data_messages, home_messages, ack_messages, messages_at, IsOfCore, HasChannel}
use Rattle.slice_queues.specs.Line.{HasRoom, Carries, after_send, after_take, SendsOnly, TakesOnly, IsWithinCores}
use Rattle.slice_queues.specs.Line.{IsEmptyLine}
use Rattle.address_map.proofs.CoreSets.{has-with_same, has-with_other, has-without_same, has-without_other}
use Rattle.address_map.proofs.CoreSets.{without-missing, has-zero, zero-from_none}

-- cores with the same number are the same
pub same_core : (c d : CoreId) → c.0 ≡ d.0 → c ≡ d
same_core c d e = let core : ℕ → CoreId = λ n. record { 0 = n } in ap core e

-- what a change at one place leaves alone there is unchanged at every place
pub read-set_unchanged : {B : Type 0} (f : CoreChannels → B) (xs : List CoreChannels) (c d : ℕ)
    (x none : CoreChannels) →
    f x ≡ f (get_or xs c none) →
    f (get_or (set xs c x) d none) ≡ f (get_or xs d none)
read-set_unchanged f [] c d x none e = refl
read-set_unchanged f (y ∷ ys) zero zero x none e = e
read-set_unchanged f (y ∷ ys) zero (suc d) x none e = refl
read-set_unchanged f (y ∷ ys) (suc c) zero x none e = refl
read-set_unchanged f (y ∷ ys) (suc c) (suc d) x none e = read-set_unchanged f ys c d x none e

-- what holds of the new element and of the old ones holds at every place
pub holds-set : (P : CoreChannels → Type 0) (xs : List CoreChannels) (c d : ℕ) (x none : CoreChannels) →
    P x → P (get_or xs d none) → P (get_or (set xs c x) d none)
holds-set P [] c d x none new old = old
holds-set P (y ∷ ys) zero zero x none new old = new
holds-set P (y ∷ ys) zero (suc d) x none new old = old
holds-set P (y ∷ ys) (suc c) zero x none new old = old
holds-set P (y ∷ ys) (suc c) (suc d) x none new old = holds-set P ys c d x none new old

-- a core's change keeps the bounds where its own acknowledgements come from cores of the line
pub IsWithinCores-set : (cores : List CoreChannels) (c : ℕ) (x : CoreChannels) →
    IsWithinCores cores → ((from : ℕ) → has x.acks from ≡ true → from < length cores) → IsWithinCores (set cores c x)
IsWithinCores-set cores c x within senders = record {
  at_most_64 = rw length-set within.at_most_64;
  senders_are_cores = λ to from h.
      let P : CoreChannels → Type 0 = λ k. has k.acks from ≡ true → from < length cores in
      let bound : from < length cores =
      holds-set P cores c to x no_messages (senders from) (within.senders_are_cores to from) h in
      rw length-set bound;
}

-- what is read within a list doesn't depend on the default
pub read_default : {A : Type 0} (xs : List A) (i : ℕ) (x y : A) → i < length xs → get_or xs i x ≡ get_or xs i y
read_default [] i x y within = absurd (omega arith)
read_default (z ∷ zs) zero x y within = refl
read_default (z ∷ zs) (suc i) x y within = let shorter : i < length zs = omega arith in read_default zs i x y shorter

-- so does an acknowledgement that a core of the line sends
pub IsWithinCores-with_ack : (cores : List CoreChannels) (to from : ℕ) (old new : CoreChannels) →
    to < length cores → old ≡ get_or cores to old → new.acks ≡ with old.acks from →
    IsWithinCores cores → from < length cores → IsWithinCores (set cores to new)
IsWithinCores-with_ack cores to from old new there read is within sender = IsWithinCores-set cores to new within bound
  where
    bound : (k : ℕ) → has new.acks k ≡ true → k < length cores
    bound k h =
        elim (cases_eq k from) [
          | inl same ↦ rw same sender
          | inr other ↦
              let kept : has new.acks k ≡ has old.acks k =
              ap (λ acks. has acks k) is ∙ has-with_other old.acks from k other in
              let here : old ≡ get_or cores to no_messages = read ∙ read_default cores to old no_messages there in
              within.senders_are_cores to k (sym (ap (λ core. has core.acks k) here) ∙ sym kept ∙ h)
        ]

-- and one that is taken
pub IsWithinCores-without_ack : (cores : List CoreChannels) (to from : ℕ) (old new : CoreChannels) →
    to < length cores → old ≡ get_or cores to old → new.acks ≡ without old.acks from →
    IsWithinCores cores → IsWithinCores (set cores to new)
IsWithinCores-without_ack cores to from old new there read is within = IsWithinCores-set cores to new within bound
  where
    gone : {b : Bool} → b ≡ false → b ≡ true → ⊥
    gone e f = cc

    bound : (k : ℕ) → has new.acks k ≡ true → k < length cores
    bound k h =
        elim (cases_eq k from) [
          | inl same ↦
              absurd
              (gone
              (ap (λ acks. has acks k) is
              ∙ ap (λ other. has (without old.acks from) other) same
              ∙ has-without_same old.acks from)
              h)
          | inr other ↦
              let kept : has new.acks k ≡ has old.acks k =
              ap (λ acks. has acks k) is ∙ has-without_other old.acks from k other in
              let here : old ≡ get_or cores to no_messages = read ∙ read_default cores to old no_messages there in
              within.senders_are_cores to k (sym (ap (λ core. has core.acks k) here) ∙ sym kept ∙ h)
        ]

-- every place of a list of the same is this
pub read-replicate : (n i : ℕ) (x : CoreChannels) → get_or (replicate n x) i x ≡ x
read-replicate zero i x = refl
read-replicate (suc n) zero x = refl
read-replicate (suc n) (suc i) x = read-replicate n i x

-- a line in which nothing waits is within its cores
pub IsWithinCores-empty : (cores : ℕ) → cores ≤ 64 → IsWithinCores (replicate cores no_messages)
IsWithinCores-empty cores few = record {
  at_most_64 = rw length-replicate few;
  senders_are_cores = λ to from h. absurd (none-true (none-waits to from) h);
}
  where
    none-waits : (to from : ℕ) → has (get_or (replicate cores no_messages) to no_messages).acks from ≡ false
    none-waits to from = rw read-replicate (has-zero from)

    none-true : {b : Bool} → b ≡ false → b ≡ true → ⊥
    none-true e f = cc

-- a channel with room for one message that has room is empty
pub nil_of_room : (xs : List Message) → length xs < 1 → xs ≡ []
nil_of_room [] room = refl
nil_of_room (x ∷ xs) room = absurd (omega arith)

-- another core has another request channel, and so on
pub request_alone : (line : LineChannels) (core : CoreId) (request : Option RequestMessage) (other : Channel) →
    other ≢ channels.Req core →
    messages_at (with_core line core.0 (record (core_at line core.0) { request = request })) other
    ≡ messages_at line other
request_alone line core request (channels.Req d) ne =
    ap (λ k. request_messages k.request)
    (get_or-set_other line.cores core.0 d.0 _ no_messages (λ e. ne (ap channels.Req (same_core d core e))))
request_alone line core request (channels.Fwd d) ne =
    read-set_unchanged (λ k. map messages.Forwarded k.forwarded) line.cores core.0 d.0 _ no_messages refl
request_alone line core request (channels.Data d) ne =
    read-set_unchanged (λ k. data_messages k.data) line.cores core.0 d.0 _ no_messages refl
request_alone line core request (channels.Ack to from) ne =
    read-set_unchanged (λ k. ack_messages (has k.acks from.0)) line.cores core.0 to.0 _ no_messages refl
request_alone line core request channels.Home ne = refl

pub forwarded_alone : (line : LineChannels) (core : CoreId) (forwarded : List ForwardedMessage) (other : Channel) →
    other ≢ channels.Fwd core →
    messages_at (with_core line core.0 (record (core_at line core.0) { forwarded = forwarded })) other
    ≡ messages_at line other
forwarded_alone line core forwarded (channels.Req d) ne =
    read-set_unchanged (λ k. request_messages k.request) line.cores core.0 d.0 _ no_messages refl
forwarded_alone line core forwarded (channels.Fwd d) ne =
    ap (λ k. map messages.Forwarded k.forwarded)
    (get_or-set_other line.cores core.0 d.0 _ no_messages (λ e. ne (ap channels.Fwd (same_core d core e))))
forwarded_alone line core forwarded (channels.Data d) ne =
    read-set_unchanged (λ k. data_messages k.data) line.cores core.0 d.0 _ no_messages refl
forwarded_alone line core forwarded (channels.Ack to from) ne =
    read-set_unchanged (λ k. ack_messages (has k.acks from.0)) line.cores core.0 to.0 _ no_messages refl
forwarded_alone line core forwarded channels.Home ne = refl

pub data_alone : (line : LineChannels) (core : CoreId) (message : Option DataMessage) (other : Channel) →
    other ≢ channels.Data core →
    messages_at (with_core line core.0 (record (core_at line core.0) { «data» = message })) other
    ≡ messages_at line other
data_alone line core message (channels.Req d) ne =
    read-set_unchanged (λ k. request_messages k.request) line.cores core.0 d.0 _ no_messages refl
data_alone line core message (channels.Fwd d) ne =
    read-set_unchanged (λ k. map messages.Forwarded k.forwarded) line.cores core.0 d.0 _ no_messages refl
data_alone line core message (channels.Data d) ne =
    ap (λ k. data_messages k.data)
    (get_or-set_other line.cores core.0 d.0 _ no_messages (λ e. ne (ap channels.Data (same_core d core e))))
data_alone line core message (channels.Ack to from) ne =
    read-set_unchanged (λ k. ack_messages (has k.acks from.0)) line.cores core.0 to.0 _ no_messages refl
data_alone line core message channels.Home ne = refl

pub acks_alone : (line : LineChannels) (to from : CoreId) (acks : ℕ) →
    ((other : ℕ) → other ≢ from.0 → has acks other ≡ has (core_at line to.0).acks other) →
    (other : Channel) → other ≢ channels.Ack to from →
    messages_at (with_core line to.0 (record (core_at line to.0) { acks = acks })) other ≡ messages_at line other
acks_alone line to from acks same (channels.Req d) ne =
    read-set_unchanged (λ k. request_messages k.request) line.cores to.0 d.0 _ no_messages refl
acks_alone line to from acks same (channels.Fwd d) ne =
    read-set_unchanged (λ k. map messages.Forwarded k.forwarded) line.cores to.0 d.0 _ no_messages refl
acks_alone line to from acks same (channels.Data d) ne =
    read-set_unchanged (λ k. data_messages k.data) line.cores to.0 d.0 _ no_messages refl
acks_alone line to from acks same (channels.Ack d e) ne =
    elim (cases_eq e.0 from.0) [
      | inl is ↦ ap (λ k. ack_messages (has k.acks e.0))
          (get_or-set_other line.cores to.0 d.0 _ no_messages
          (λ same_to. ne (cc (same_core d to same_to, same_core e from is))))
      | inr is_not ↦ read-set_unchanged (λ k. ack_messages (has k.acks e.0)) line.cores to.0 d.0 _ no_messages
          (ap ack_messages (same e.0 is_not))
    ]
acks_alone line to from acks same channels.Home ne = refl

pub home_alone : (line : LineChannels) (home : Option Block) (other : Channel) →
    other ≢ channels.Home →
    messages_at (record line { home = home }) other ≡ messages_at line other
home_alone line home (channels.Req d) ne = refl
home_alone line home (channels.Fwd d) ne = refl
home_alone line home (channels.Data d) ne = refl
home_alone line home (channels.Ack to from) ne = refl
home_alone line home channels.Home ne = absurd (ne refl)

-- what is sent waits after the others of its channel, and no other channel changes
pub sends_only : (line : LineChannels) (channel : Channel) (message : Message) →
    HasChannel line channel → HasRoom line channel → Carries channel message → is_from_core channel ≡ true →
    SendsOnly line (after_send line channel message) channel message
sends_only line (channels.Req core) (messages.Request message) there room carried known = record {
  appended =
      ap (λ k. request_messages k.request) (get_or-set_same line.cores core.0 _ no_messages there)
      ∙ sym (ap (λ waiting. waiting ++ messages.Request message ∷ []) (nil_of_room _ room));
  others = request_alone line core (Some message);
}
sends_only line (channels.Fwd core) (messages.Forwarded message) there room carried known = record {
  appended =
      ap (λ k. map messages.Forwarded k.forwarded) (get_or-set_same line.cores core.0 _ no_messages there)
      ∙ simp map-append;
  others = forwarded_alone line core _;
}
sends_only line (channels.Data core) (messages.Data message) there room carried known = record {
  appended =
      ap (λ k. data_messages k.data) (get_or-set_same line.cores core.0 _ no_messages there)
      ∙ sym (ap (λ waiting. waiting ++ messages.Data message ∷ []) (nil_of_room _ room));
  others = data_alone line core (Some message);
}
sends_only line (channels.Ack to from) messages.InvAck there room carried known = record {
  appended =
      ap (λ k. ack_messages (has k.acks from.0)) (get_or-set_same line.cores to.0 _ no_messages there.0)
      ∙ ap ack_messages (has-with_same (core_at line to.0).acks from.0 (ltb-true from.0 64 known))
      ∙ sym (ap (λ waiting. waiting ++ messages.InvAck ∷ []) (nil_of_room _ room));
  others = acks_alone line to from _ (has-with_other (core_at line to.0).acks from.0);
}
sends_only line channels.Home (messages.Home block) there room carried known = record {
  appended = sym (ap (λ waiting. waiting ++ messages.Home block ∷ []) (nil_of_room _ room));
  others = home_alone line (Some block);
}
sends_only line channel message there room carried known = absurd carried

-- what is taken is the oldest message of its channel, and no other channel changes
pub takes_only : (line : LineChannels) (channel : Channel) →
    HasChannel line channel → TakesOnly line (after_take line channel) channel
takes_only line (channels.Req core) there = record {
  rest =
      ap (λ k. request_messages k.request) (get_or-set_same line.cores core.0 _ no_messages there)
      ∙ alone (core_at line core.0).request;
  others = request_alone line core None;
}
  where
    alone : (request : Option RequestMessage) → [] ≡ drop 1 (request_messages request)
    alone None = refl
    alone (Some message) = refl
takes_only line (channels.Fwd core) there = record {
  rest =
      ap (λ k. map messages.Forwarded k.forwarded) (get_or-set_same line.cores core.0 _ no_messages there)
      ∙ later (core_at line core.0).forwarded;
  others = forwarded_alone line core _;
}
  where
    later : (queue : List ForwardedMessage) →
        map messages.Forwarded (drop 1 queue) ≡ drop 1 (map messages.Forwarded queue)
    later [] = refl
    later (first ∷ queue) = refl
takes_only line (channels.Data core) there = record {
  rest =
      ap (λ k. data_messages k.data) (get_or-set_same line.cores core.0 _ no_messages there)
      ∙ alone (core_at line core.0).data;
  others = data_alone line core None;
}
  where
    alone : (message : Option DataMessage) → [] ≡ drop 1 (data_messages message)
    alone None = refl
    alone (Some message) = refl
takes_only line (channels.Ack to from) there = record {
  rest =
      ap (λ k. ack_messages (has k.acks from.0)) (get_or-set_same line.cores to.0 _ no_messages there.0)
      ∙ ap ack_messages (has-without_same (core_at line to.0).acks from.0)
      ∙ alone (has (core_at line to.0).acks from.0);
  others = acks_alone line to from _ (has-without_other (core_at line to.0).acks from.0);
}
  where
    alone : (waits : Bool) → [] ≡ drop 1 (ack_messages waits)
    alone false = refl
    alone true = refl
takes_only line channels.Home there = record { rest = alone line.home; others = home_alone line None }
  where
    alone : (block : Option Block) → [] ≡ drop 1 (home_messages block)
    alone None = refl
    alone (Some block) = refl

-- a line of which no core has a message, nor the directory, is empty
pub IsEmptyLine-from_cores : (line : LineChannels) →
    ((c : ℕ) → core_at line c ≡ no_messages) → line.home ≡ None → IsEmptyLine line
IsEmptyLine-from_cores line quiet home (channels.Req core) = ap (λ k. request_messages k.request) (quiet core.0)
IsEmptyLine-from_cores line quiet home (channels.Fwd core) = ap (λ k. map messages.Forwarded k.forwarded) (quiet core.0)
IsEmptyLine-from_cores line quiet home (channels.Data core) = ap (λ k. data_messages k.data) (quiet core.0)
IsEmptyLine-from_cores line quiet home (channels.Ack to from) =
    ap (λ k. ack_messages (has k.acks from.0)) (quiet to.0) ∙ ap ack_messages (has-zero from.0)
IsEmptyLine-from_cores line quiet home channels.Home = ap home_messages home

-- an empty channel shows that its field has nothing
pub None-from_request : (request : Option RequestMessage) → request_messages request ≡ [] → request ≡ None
None-from_request None e = refl
None-from_request (Some message) e = cc

pub nil-from_forwarded : (queue : List ForwardedMessage) → map messages.Forwarded queue ≡ [] → queue ≡ []
nil-from_forwarded [] e = refl
nil-from_forwarded (first ∷ queue) e = cc

pub None-from_data : (message : Option DataMessage) → data_messages message ≡ [] → message ≡ None
None-from_data None e = refl
None-from_data (Some message) e = cc

pub false-from_ack : (waits : Bool) → ack_messages waits ≡ [] → waits ≡ false
false-from_ack false e = refl
false-from_ack true e = cc

pub None-from_home : (home : Option Block) → home_messages home ≡ [] → home ≡ None
None-from_home None e = refl
None-from_home (Some block) e = cc

-- no core of an empty line has a message
pub cores-from_IsEmptyLine : (line : LineChannels) → IsEmptyLine line → (c : ℕ) → core_at line c ≡ no_messages
cores-from_IsEmptyLine line quiet c =
    let core : CoreId = record { 0 = c } in
    let request : (core_at line c).request ≡ None = None-from_request _ (quiet (channels.Req core)) in
    let forwarded : (core_at line c).forwarded ≡ [] = nil-from_forwarded _ (quiet (channels.Fwd core)) in
    let message : (core_at line c).data ≡ None = None-from_data _ (quiet (channels.Data core)) in
    let acks : (core_at line c).acks ≡ 0 =
    zero-from_none _ (λ from. false-from_ack _ (quiet (channels.Ack core (record { 0 = from })))) in
    same_fields (core_at line c) request forwarded message acks
  where
    same_fields : (k : CoreChannels) → k.request ≡ None → k.forwarded ≡ [] → k.data ≡ None → k.acks ≡ 0 →
        k ≡ no_messages
    same_fields k e f g h =
        ap (λ (r : Option RequestMessage). let x : CoreChannels = record k { request = r } in x) e
        ∙ ap (λ (q : List ForwardedMessage). let x : CoreChannels = record k { request = None; forwarded = q } in x) f
        ∙ ap (λ (m : Option DataMessage). let x : CoreChannels =
        record k { request = None; forwarded = []; «data» = m } in x) g
        ∙ ap (λ (a : ℕ). let x : CoreChannels = record { request = None; forwarded = []; «data» = None; acks = a } in
        x) h

-- no acknowledgement waits that isn't from a core of the line
pub has-past_end : (cores : List CoreChannels) (to from : ℕ) → IsWithinCores cores → length cores ≤ from →
    has (get_or cores to no_messages).acks from ≡ false
has-past_end cores to from within past = none (has (get_or cores to no_messages).acks from) refl
  where
    none : (waits : Bool) → has (get_or cores to no_messages).acks from ≡ waits → waits ≡ false
    none false e = refl
    none true e = absurd (omega (arith, within.senders_are_cores to from e))

-- to take what isn't there changes nothing
pub after_take-no_ack : (line : LineChannels) (to from : CoreId) → has (core_at line to.0).acks from.0 ≡ false →
    after_take line (channels.Ack to from) ≡ line
after_take-no_ack line to from none =
    rw (without-missing (core_at line to.0).acks from.0 none, set-get_or line.cores to.0 no_messages) refl

-- to a core that isn't there no acknowledgement waits
pub no_ack-past_end : (line : LineChannels) (to from : CoreId) → length line.cores ≤ to.0 →
    messages_at line (channels.Ack to from) ≡ []
no_ack-past_end line to from past =
    ap (λ k. ack_messages (has k.acks from.0)) (get_or_past line.cores to.0 no_messages past)
    ∙ ap ack_messages (has-zero from.0)

-- channels have one name exactly where they are the same
pub same_itself : (channel : Channel) → is_same_channel channel channel ≡ true
same_itself (channels.Req core) = eq-eqb core.0 core.0 refl
same_itself (channels.Fwd core) = eq-eqb core.0 core.0 refl
same_itself (channels.Data core) = eq-eqb core.0 core.0 refl
same_itself (channels.Ack to from) = rw (eq-eqb to.0 to.0 refl, eq-eqb from.0 from.0 refl) refl
same_itself channels.Home = refl

pub same-from_name : (channel other : Channel) → is_same_channel channel other ≡ true → channel ≡ other
same-from_name channel other e = search (rules, same_core, eqb-true)

-- an empty line stays empty when a message is taken
pub IsEmptyLine-from_taken : (old new : LineChannels) (channel : Channel) → TakesOnly old new channel →
    IsEmptyLine old → IsEmptyLine new
IsEmptyLine-from_taken old new channel taken empty other = by_name (is_same_channel other channel) refl
  where
    by_name : (same : Bool) → is_same_channel other channel ≡ same → messages_at new other ≡ []
    by_name true e =
        let here : other ≡ channel = same-from_name other channel e in
        ap (messages_at new) here ∙ taken.rest ∙ ap (drop 1) (empty channel)
    by_name false e =
        let differs : other ≢ channel = λ here. let clash : false ≡ true =
        sym e ∙ ap (λ c. is_same_channel c channel) here ∙ same_itself channel in cc in
        taken.others other differs ∙ empty other

-- a channel of one of the four kinds that name a core is that core's
pub of-core : (channel : Channel) (core : CoreId) →
    channel ≡ channels.Req core ⊎ (channel ≡ channels.Fwd core ⊎ (channel ≡ channels.Data core
    ⊎ ((from : CoreId) × channel ≡ channels.Ack core from))) → IsOfCore channel core
of-core channel core (inl request) = rw request refl
of-core channel core (inr (inl forwarded)) = rw forwarded refl
of-core channel core (inr (inr (inl reply))) = rw reply refl
of-core channel core (inr (inr (inr (from, ack)))) = rw ack refl

-- the core of a channel that is there is there
pub core-there : (line : LineChannels) (channel : Channel) (core : CoreId) → IsOfCore channel core →
    HasChannel line channel → core.0 < length line.cores
core-there line (channels.Req of) core is there = subst (λ (c : CoreId). c.0 < length line.cores) is there
core-there line (channels.Fwd of) core is there = subst (λ (c : CoreId). c.0 < length line.cores) is there
core-there line (channels.Data of) core is there = subst (λ (c : CoreId). c.0 < length line.cores) is there
core-there line (channels.Ack to from) core is there = subst (λ (c : CoreId). c.0 < length line.cores) is there.0
core-there line channels.Home core is there = absurd is

-- what is read as a core's channels
pub core-read : (line : LineChannels) (core : ℕ) (queues : CoreChannels) → core < length line.cores →
    core_at line core ≡ queues → queues ≡ get_or line.cores core queues
core-read line core queues there is = sym is ∙ read_default line.cores core no_messages queues there

-- a channel of forwarded messages that takes another has fewer than two
pub few-forwarded : (line : LineChannels) (channel : Channel) (core other : CoreId) (queues : CoreChannels) →
    IsOfCore channel core → core_at line core.0 ≡ queues → HasRoom line channel → channel ≡ channels.Fwd other →
    length queues.forwarded < 2
few-forwarded line (channels.Fwd of) core other queues is here room e =
    let same : length (core_at line of.0).forwarded ≡ length queues.forwarded =
    ap (λ (c : CoreId). length (core_at line c.0).forwarded) is ∙ ap (λ k. length k.forwarded) here in
    omega (arith, same, length-map (core_at line of.0).forwarded messages.Forwarded, room)
few-forwarded line (channels.Req of) core other queues is here room e = cc
few-forwarded line (channels.Data of) core other queues is here room e = cc
few-forwarded line (channels.Ack to from) core other queues is here room e = cc
few-forwarded line channels.Home core other queues is here room e = cc
