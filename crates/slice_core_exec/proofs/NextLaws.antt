-- What is delivered next: nothing that was looked at is better, and what wasn't looked at has no message.
use Rattle.std.proofs.Common.{◌≡◌, ℕ, suc, ◌+◌, ◌<◌, ◌≤◌, ◌⊎◌, Bool, true, false, ◌&&◌, ◌||◌, if◌then◌else◌, List}
use Rattle.std.proofs.Common.{[], ◌∷◌, length, drop, get_or, eqb, refl, sym, ◌∙◌, ap, subst, inl, inr, arith}
use Rattle.std.specs.Prelude.{IsTrue, Option, Some, None, is_some, slice_get, map, nat_lt}
use Rattle.std.specs.List.{count_by}
use Rattle.std.proofs.Common.{add-one, drop-cons}
use Rattle.std.proofs.lemmas.Bool.{eqb-true, ltb-false}
use Rattle.slice_queues.specs.Ring.{QueuesView, has_mail_at as queues_mail, is_listed, IsRing}
use Rattle.std.proofs.lemmas.List.Sums.{sum_by-cons}
use Rattle.slice_queues.proofs.LineLaws.{same_itself, same-from_name}
use Rattle.slice_queues.proofs.MailLaws.{IsEmptyLine-from_no_mail}
use Rattle.address_map.specs.declared.address.Local.{Local}
use Rattle.slice_core_spec.specs.Next.{better_of, next_by, IsNextAt, IsNextIn, IsNoBetter}
use Rattle.address_map.specs.declared.block.Block.{Block}
use Rattle.cache_table.specs.Row.{row_of}
use Rattle.cache_table.specs.declared.row.CacheEvent.TheVariants as cache_events
use Rattle.directory_table.specs.Row.{row_of as dir_row_of}
use Rattle.directory_table.specs.declared.row.DirEvent.TheVariants as dir_events
use Rattle.slice_core_cache.specs.CoreCache.{copy_of}
use Rattle.slice_core_spec.specs.Plan.{by_ack_row, by_home_row, data_by, forwarded_by, plan_of, request_by}
use Rattle.slice_core_spec.specs.Calls.{IsMove, PartsView}
use Rattle.slice_core_spec.specs.Ring.{has_mail_at}
use Rattle.slice_core_spec.specs.Turn.{CanMove, StandsAt}
use Rattle.slice_core_spec.specs.View.{View, channels_at, entry_at, cache_at, IsShaped}
use Rattle.slice_queues.specs.Line.{LineChannels, empty_line, messages_at, request_messages, data_messages}
use Rattle.slice_queues.specs.Line.{ack_messages, home_messages}
use Rattle.slice_queues.specs.Waiting.{channels_left, is_same_channel, is_waiting, HasEachOnceIn}
use Rattle.slice_queues.specs.declared.waiting.ChannelsLeft.{ChannelsLeft}
use Rattle.slice_queues.specs.Class.{is_of_class}
use Rattle.slice_queues.specs.declared.channel.Channel.{Channel}
use Rattle.slice_queues.specs.declared.channel.Channel.TheVariants as channels
use Rattle.slice_queues.specs.declared.channel.Class.{Class}
use Rattle.slice_queues.specs.declared.message.DataMessage.{DataMessage}
use Rattle.slice_queues.specs.declared.message.ForwardedMessage.{ForwardedMessage}
use Rattle.slice_queues.specs.declared.message.Message.{Message}
use Rattle.slice_queues.specs.declared.message.Message.TheVariants as messages
use Rattle.slice_queues.specs.declared.message.RequestMessage.{RequestMessage}
use Rattle.slice_answer.specs.declared.answer.Delivery.TheVariants as deliveries
use Rattle.slice_answer.specs.declared.answer.Delivery.{Delivery}
use Rattle.slice_core_spec.specs.declared.transition.Transition.{Transition}

-- ---- the better of two

-- nothing is always no better
no_better-nothing : (one : Delivery (Local × Channel)) → IsNoBetter one deliveries.Nothing
no_better-nothing deliveries.Nothing = refl
no_better-nothing deliveries.Blocked = refl
no_better-nothing (deliveries.Broken cell) = refl
no_better-nothing (deliveries.Moved at) = refl

-- what is no better than the one is no better than the better of the one and another
no_better-first : (one other third : Delivery (Local × Channel)) → IsNoBetter one third → IsNoBetter (better_of one other) third
no_better-first (deliveries.Moved at) other third h = refl
no_better-first (deliveries.Broken a) (deliveries.Moved at) third h = refl
no_better-first (deliveries.Broken a) deliveries.Nothing third h = h
no_better-first (deliveries.Broken a) deliveries.Blocked third h = h
no_better-first (deliveries.Broken a) (deliveries.Broken b) third h = h
no_better-first deliveries.Blocked (deliveries.Moved at) third h = refl
no_better-first deliveries.Blocked (deliveries.Broken b) deliveries.Nothing h = refl
no_better-first deliveries.Blocked (deliveries.Broken b) deliveries.Blocked h = refl
no_better-first deliveries.Blocked (deliveries.Broken b) (deliveries.Broken d) h = refl
no_better-first deliveries.Blocked (deliveries.Broken b) (deliveries.Moved at) h = cc
no_better-first deliveries.Blocked deliveries.Nothing third h = h
no_better-first deliveries.Blocked deliveries.Blocked third h = h
no_better-first deliveries.Nothing other deliveries.Nothing h = no_better-nothing other
no_better-first deliveries.Nothing other deliveries.Blocked h = cc
no_better-first deliveries.Nothing other (deliveries.Broken d) h = cc
no_better-first deliveries.Nothing other (deliveries.Moved at) h = cc

-- the other is no better than the better of the two
no_better-second : (one other : Delivery (Local × Channel)) → IsNoBetter (better_of one other) other
no_better-second (deliveries.Moved at) other = refl
no_better-second (deliveries.Broken a) (deliveries.Moved at) = refl
no_better-second (deliveries.Broken a) deliveries.Nothing = refl
no_better-second (deliveries.Broken a) deliveries.Blocked = refl
no_better-second (deliveries.Broken a) (deliveries.Broken b) = refl
no_better-second deliveries.Blocked (deliveries.Moved at) = refl
no_better-second deliveries.Blocked (deliveries.Broken b) = refl
no_better-second deliveries.Blocked deliveries.Nothing = refl
no_better-second deliveries.Blocked deliveries.Blocked = refl
no_better-second deliveries.Nothing deliveries.Nothing = refl
no_better-second deliveries.Nothing deliveries.Blocked = refl
no_better-second deliveries.Nothing (deliveries.Broken d) = refl
no_better-second deliveries.Nothing (deliveries.Moved at) = refl

-- what is no better than the other is no better than the better of the two
no_better-other : (one other third : Delivery (Local × Channel)) → IsNoBetter other third → IsNoBetter (better_of one other) third
no_better-other (deliveries.Moved at) other third h = refl
no_better-other (deliveries.Broken a) (deliveries.Moved at) third h = refl
no_better-other (deliveries.Broken a) deliveries.Nothing deliveries.Nothing h = refl
no_better-other (deliveries.Broken a) deliveries.Nothing deliveries.Blocked h = refl
no_better-other (deliveries.Broken a) deliveries.Nothing (deliveries.Broken d) h = refl
no_better-other (deliveries.Broken a) deliveries.Nothing (deliveries.Moved at) h = cc
no_better-other (deliveries.Broken a) deliveries.Blocked deliveries.Nothing h = refl
no_better-other (deliveries.Broken a) deliveries.Blocked deliveries.Blocked h = refl
no_better-other (deliveries.Broken a) deliveries.Blocked (deliveries.Broken d) h = refl
no_better-other (deliveries.Broken a) deliveries.Blocked (deliveries.Moved at) h = cc
no_better-other (deliveries.Broken a) (deliveries.Broken b) deliveries.Nothing h = refl
no_better-other (deliveries.Broken a) (deliveries.Broken b) deliveries.Blocked h = refl
no_better-other (deliveries.Broken a) (deliveries.Broken b) (deliveries.Broken d) h = refl
no_better-other (deliveries.Broken a) (deliveries.Broken b) (deliveries.Moved at) h = cc
no_better-other deliveries.Blocked (deliveries.Moved at) third h = refl
no_better-other deliveries.Blocked (deliveries.Broken b) third h = h
no_better-other deliveries.Blocked deliveries.Blocked third h = h
no_better-other deliveries.Blocked deliveries.Nothing deliveries.Nothing h = refl
no_better-other deliveries.Blocked deliveries.Nothing deliveries.Blocked h = refl
no_better-other deliveries.Blocked deliveries.Nothing (deliveries.Broken d) h = cc
no_better-other deliveries.Blocked deliveries.Nothing (deliveries.Moved at) h = cc
no_better-other deliveries.Nothing other third h = h

-- the better of two is the one or the other
either-one : (one other : Delivery (Local × Channel)) → (better_of one other ≡ one) ⊎ (better_of one other ≡ other)
either-one (deliveries.Moved at) other = inl refl
either-one (deliveries.Broken a) (deliveries.Moved at) = inr refl
either-one (deliveries.Broken a) deliveries.Nothing = inl refl
either-one (deliveries.Broken a) deliveries.Blocked = inl refl
either-one (deliveries.Broken a) (deliveries.Broken b) = inl refl
either-one deliveries.Blocked (deliveries.Moved at) = inr refl
either-one deliveries.Blocked (deliveries.Broken b) = inr refl
either-one deliveries.Blocked deliveries.Nothing = inl refl
either-one deliveries.Blocked deliveries.Blocked = inl refl
either-one deliveries.Nothing other = inr refl

-- ---- a channel without a message

no_request : (request : Option RequestMessage) → request_messages request ≡ [] → request ≡ None
no_request None h = refl
no_request (Some message) h = cc

no_forwarded : (forwarded : List ForwardedMessage) → map messages.Forwarded forwarded ≡ [] → forwarded ≡ []
no_forwarded [] h = refl
no_forwarded (message ∷ rest) h = cc

no_data : (reply : Option DataMessage) → data_messages reply ≡ [] → reply ≡ None
no_data None h = refl
no_data (Some message) h = cc

no_ack : (there : Bool) → ack_messages there ≡ [] → there ≡ false
no_ack false h = refl
no_ack true h = cc

no_home : (home : Option Block) → home_messages home ≡ [] → home ≡ None
no_home None h = refl
no_home (Some block) h = cc

-- where no message waits, nothing is planned
pub plan-idle : (v : View) (local : Local) (channel : Channel) → messages_at (channels_at v local) channel ≡ []
    → plan_of v local channel ≡ deliveries.Nothing
plan-idle v local (channels.Req core) none = ap (request_by v local core) (no_request _ none)
plan-idle v local (channels.Fwd core) none =
    ap (λ forwarded. forwarded_by v local core (slice_get forwarded 0)) (no_forwarded _ none)
plan-idle v local (channels.Data core) none = ap (data_by v local core) (no_data _ none)
plan-idle v local (channels.Ack to from) none =
    ap (λ there. if there then by_ack_row v local to
    (row_of (copy_of (cache_at v to) local).state
    (cache_events.InvAck (copy_of (cache_at v to) local).wants (copy_of (cache_at v to) local).counted))
    else deliveries.Nothing) (no_ack _ none)
plan-idle v local channels.Home none =
    ap (λ home. if is_some home then by_home_row (dir_row_of v.exclusive (entry_at v local) dir_events.DataHome)
    else deliveries.Nothing)
    (no_home _ none)

-- ---- the channels of a line, one after another

-- Of the channels of the class those that aren't left have nothing better than this; those that are left have messages.
pub record IsNextOf (v : View) (local : Local) (class : Class) (next : Delivery (Local × Channel)) (left : List Channel) : Type 0 where
  pub covered : (channel : Channel) → IsTrue (is_of_class class channel) → count_by (is_same_channel channel) left ≡ 0
      → IsNoBetter next (next_by local channel (plan_of v local channel))
  pub met : (next ≡ deliveries.Nothing)
      ⊎ ((channel : Channel) × IsTrue (is_of_class class channel)
      × (next ≡ next_by local channel (plan_of v local channel)))
  pub part : (channel : Channel) → count_by (is_same_channel channel) left
      ≤ (if is_of_class class channel && is_waiting (channels_at v local) channel then 1 else 0)

none-waits : (xs : List Message) → nat_lt 0 (length xs) ≡ false → xs ≡ []
none-waits [] h = refl
none-waits (x ∷ xs) h = let clash = ltb-false 0 (length (x ∷ xs)) h in absurd (omega arith)

idle-from_count : (count : ℕ) (of_class waits : Bool) → of_class ≡ true → count ≡ (if of_class && waits then 1 else 0)
    → count ≡ 0 → waits ≡ false
idle-from_count count true false h e none = refl
idle-from_count count true true h e none = cc
idle-from_count count false waits h e none = cc

class-from_count : (count : ℕ) (of_class waits : Bool) → 0 < count → count ≤ (if of_class && waits then 1 else 0)
    → of_class ≡ true
class-from_count count true waits some few = refl
class-from_count count false waits some few = absurd (omega arith)

-- before the first channel
pub next-begins : (v : View) (local : Local) (class : Class) (names : List Channel)
    → HasEachOnceIn class (channels_at v local) names
    → IsNextOf v local class deliveries.Nothing names
next-begins v local class names once = record {
  covered = λ channel of_class none.
      let idle : is_waiting (channels_at v local) channel ≡ false =
      idle-from_count _ (is_of_class class channel) _ of_class (once channel) none in
      rw (plan-idle v local channel (none-waits _ idle)) refl;
  met = inl refl;
  part = λ channel. let e = once channel in omega arith;
}

count-head : (channel first : Channel) (rest : List Channel) (same : Bool) → is_same_channel channel first ≡ same
    → count_by (is_same_channel channel) (first ∷ rest)
    ≡ (if same then 1 else 0) + count_by (is_same_channel channel) rest
count-head channel first rest same e =
    let all = sum_by-cons (λ name. if is_same_channel channel name then 1 else 0) first rest in
    let one : (if is_same_channel channel first then 1 else 0) ≡ (if same then 1 else 0) = ap (λ b. number b) e in
    omega (arith, all, one)
  where
    number : Bool → ℕ
    number b = if b then 1 else 0

-- a channel that is left is of the class
first-of_class : (v : View) (local : Local) (class : Class) (next : Delivery (Local × Channel)) (first : Channel) (rest : List Channel)
    → IsNextOf v local class next (first ∷ rest) → IsTrue (is_of_class class first)
first-of_class v local class next first rest so_far =
    let is_there : 0 < count_by (is_same_channel first) (first ∷ rest) =
    (let more = count-head first first rest true (same_itself first) in omega arith) in
    class-from_count _ _ _ is_there (so_far.part first)

-- one more channel
pub next-more : (v : View) (local : Local) (class : Class) (next : Delivery (Local × Channel)) (first : Channel) (rest : List Channel)
    → IsNextOf v local class next (first ∷ rest)
    → IsNextOf v local class (better_of next (next_by local first (plan_of v local first))) rest
next-more v local class next first rest so_far = record {
  covered = λ channel of_class none. by_channel channel of_class none (is_same_channel channel first) refl;
  met = by_better (either-one next (next_by local first (plan_of v local first)));
  part = λ channel. let more = count-head channel first rest (is_same_channel channel first) refl in
      let few = so_far.part channel in omega arith;
}
  where
    by_channel : (channel : Channel) → IsTrue (is_of_class class channel) → count_by (is_same_channel channel) rest ≡ 0
        → (same : Bool)
        → is_same_channel channel first ≡ same
        → IsNoBetter (better_of next (next_by local first (plan_of v local first)))
        (next_by local channel (plan_of v local channel))
    by_channel channel of_class none true e =
        let P : Channel → Type 0 =
        λ x. IsNoBetter (better_of next (next_by local first (plan_of v local first)))
        (next_by local x (plan_of v local x)) in
        subst P (sym (same-from_name channel first e))
        (no_better-second next (next_by local first (plan_of v local first)))
    by_channel channel of_class none false e =
        no_better-first next (next_by local first (plan_of v local first))
        (next_by local channel (plan_of v local channel))
        (so_far.covered channel of_class (let more = count-head channel first rest false e in
        omega (arith, more, none)))

    by_better : (better_of next (next_by local first (plan_of v local first)) ≡ next)
        ⊎ (better_of next (next_by local first (plan_of v local first)) ≡ next_by local first (plan_of v local first))
        → (better_of next (next_by local first (plan_of v local first)) ≡ deliveries.Nothing)
        ⊎ ((channel : Channel) × IsTrue (is_of_class class channel)
        × (better_of next (next_by local first (plan_of v local first))
        ≡ next_by local channel (plan_of v local channel)))
    by_better (inl e) = elim so_far.met [ inl none ↦ inl (e ∙ none) | inr some ↦ inr (some.0, some.1, e ∙ some.2) ]
    by_better (inr e) = inr (first, first-of_class v local class next first rest so_far, e)

-- a list whose first element was taken
pub taken-first : (left : List Channel) (channel : Channel) → slice_get left 0 ≡ Some channel
    → left ≡ channel ∷ drop 1 left
taken-first [] channel h = cc
taken-first (first ∷ rest) channel h = ap (λ x. x ∷ rest) (let e : first ≡ channel = cc in e)

-- one more channel, as it was taken from those that were left
pub next-more_taken : (v : View) (local : Local) (class : Class) (next one after_next : Delivery (Local × Channel))
    (left after : List Channel) (channel : Channel) (plan : Delivery Transition)
    → IsNextOf v local class next left → Some channel ≡ slice_get left 0 → after ≡ drop 1 left
    → plan ≡ plan_of v local channel
    → one ≡ next_by local channel plan → after_next ≡ better_of next one → IsNextOf v local class after_next after
next-more_taken v local class next one after_next left after channel plan so_far first rest planned is better =
    let begins : left ≡ channel ∷ drop 1 left = taken-first left channel (sym first) in
    let P : List Channel → Type 0 = λ names. IsNextOf v local class next names in
    let next_is : after_next ≡ better_of next (next_by local channel (plan_of v local channel)) =
    better ∙ ap (better_of next) (is ∙ ap (next_by local channel) planned) in
    let Q : Delivery (Local × Channel) → Type 0 = λ n. IsNextOf v local class n after in
    let R : List Channel → Type 0 =
    λ names. IsNextOf v local class (better_of next (next_by local channel (plan_of v local channel))) names in
    subst Q (sym next_is)
    (subst R (sym rest) (next-more v local class next channel (drop 1 left) (subst P begins so_far)))

-- what can be moved is as good as any
pub next-moves : (v : View) (local : Local) (class : Class) (channel : Channel) (next one : Delivery (Local × Channel))
    (at : Local × Channel) (left : List Channel) (plan : Delivery Transition)
    → IsNextOf v local class next left → Some channel ≡ slice_get left 0 → plan ≡ plan_of v local channel
    → one ≡ next_by local channel plan → one ≡ deliveries.Moved at → IsNextAt v local class one
next-moves v local class channel next one at left plan so_far first planned is moves =
    let P : List Channel → Type 0 = λ names. IsNextOf v local class next names in
    let of_class =
    first-of_class v local class next channel (drop 1 left) (subst P (taken-first left channel (sym first)) so_far) in
    ((λ third of_third. rw moves refl), inr (channel, of_class, is ∙ ap (next_by local channel) planned))

none-left : (left : List Channel) → None ≡ slice_get left 0 → left ≡ []
none-left [] e = refl
none-left (first ∷ rest) e = cc

-- after the last channel
pub next-ends : (v : View) (local : Local) (class : Class) (next : Delivery (Local × Channel)) (left : List Channel)
    → IsNextOf v local class next left → None ≡ slice_get left 0 → IsNextAt v local class next
next-ends v local class next left so_far end =
    ((λ channel of_class. so_far.covered channel of_class (rw (none-left left end) refl)), so_far.met)

-- what is left of a line is left of the same line
pub first-left : (left : ChannelsLeft) (line same : LineChannels) (answer : Option Channel) → line ≡ same
    → answer ≡ slice_get (channels_left left line.cores) 0 → answer ≡ slice_get (channels_left left same.cores) 0
first-left left line same answer is first =
    subst (λ (l : LineChannels). answer ≡ slice_get (channels_left left l.cores) 0) is first

pub rest-left : (left after : ChannelsLeft) (line same : LineChannels) → line ≡ same
    → channels_left after line.cores ≡ drop 1 (channels_left left line.cores)
    → channels_left after same.cores ≡ drop 1 (channels_left left same.cores)
rest-left left after line same is rest =
    subst (λ (l : LineChannels). channels_left after l.cores ≡ drop 1 (channels_left left l.cores)) is rest

-- before the first channel of a line that was looked up
pub next-begins_at : (v : View) (local : Local) (class : Class) (line : LineChannels) (names : List Channel)
    → line ≡ channels_at v local
    → HasEachOnceIn class line names → IsNextOf v local class deliveries.Nothing names
next-begins_at v local class line names is once =
    let P : LineChannels → Type 0 = λ l. HasEachOnceIn class l names in
    next-begins v local class names (subst P is once)

-- ---- the lines of the ring, one after another

-- Of the lines that aren't left in the ring none has anything better than this.
pub record IsNextSoFar (v : View) (class : Class) (next : Delivery (Local × Channel)) (left : List ℕ) : Type 0 where
  pub covered : (local : Local) (channel : Channel) → IsTrue (is_of_class class channel)
      → is_listed left local.0 ≡ false
      → IsNoBetter next (next_by local channel (plan_of v local channel))
  pub met : (next ≡ deliveries.Nothing)
      ⊎ ((local : Local) × (channel : Channel) × (local.0 < v.lines.lines) × IsTrue (is_of_class class channel)
      × (next ≡ next_by local channel (plan_of v local channel)))

no-mail : (queues : QueuesView) → IsRing queues → (local : ℕ) → is_listed queues.ring local ≡ false
    → queues_mail queues.channels local ≡ false
no-mail queues ring local unlisted = by_mail (queues_mail queues.channels local) refl
  where
    by_mail : (mail : Bool) → queues_mail queues.channels local ≡ mail → mail ≡ false
    by_mail false e = refl
    by_mail true e = let listed = ring.mail local e in cc

-- before the first line: a line that isn't in the ring has no message
pub ring-begins : (v : View) (class : Class) (queues : QueuesView) → IsRing queues → queues.channels.lines ≡ v.channels
    → IsNextSoFar v class deliveries.Nothing queues.ring
ring-begins v class queues ring same = record {
  covered = λ local channel of_class unlisted.
      let empty : messages_at (get_or queues.channels.lines local.0 (empty_line 0)) channel ≡ [] =
      IsEmptyLine-from_no_mail _ (no-mail queues ring local.0 unlisted) channel in
      let P : List LineChannels → Type 0 = λ lines. messages_at (get_or lines local.0 (empty_line 0)) channel ≡ [] in
      rw (plan-idle v local channel (subst P same empty)) refl;
  met = inl refl;
}

unlisted-other : (first local : ℕ) (rest : List ℕ) → eqb local first ≡ false → is_listed rest local ≡ false
    → is_listed (first ∷ rest) local ≡ false
unlisted-other first local rest differs unlisted = rw differs unlisted

-- one more line
pub ring-more : (v : View) (class : Class) (next one : Delivery (Local × Channel)) (first : ℕ) (rest : List ℕ) → first < v.lines.lines
    → IsNextSoFar v class next (first ∷ rest) → IsNextAt v (record { 0 = first }) class one
    → IsNextSoFar v class (better_of next one) rest
ring-more v class next one first rest there so_far at = record {
  covered = λ local channel of_class unlisted. by_line local channel of_class unlisted (eqb local.0 first) refl;
  met = by_better (either-one next one);
}
  where
    by_line : (local : Local) (channel : Channel) → IsTrue (is_of_class class channel) → is_listed rest local.0 ≡ false
        → (same : Bool)
        → eqb local.0 first ≡ same → IsNoBetter (better_of next one) (next_by local channel (plan_of v local channel))
    by_line local channel of_class unlisted true e =
        let P : ℕ → Type 0 =
        λ n. IsNoBetter one (next_by (record { 0 = n }) channel (plan_of v (record { 0 = n }) channel)) in
        no_better-other next one (next_by local channel (plan_of v local channel))
        (subst P (sym (eqb-true local.0 first e)) (at.0 channel of_class))
    by_line local channel of_class unlisted false e =
        no_better-first next one (next_by local channel (plan_of v local channel))
        (so_far.covered local channel of_class (unlisted-other first local.0 rest e unlisted))

    by_better : (better_of next one ≡ next) ⊎ (better_of next one ≡ one)
        → (better_of next one ≡ deliveries.Nothing)
        ⊎ ((local : Local) × (channel : Channel) × (local.0 < v.lines.lines) × IsTrue (is_of_class class channel)
        × (better_of next one ≡ next_by local channel (plan_of v local channel)))
    by_better (inl e) =
        elim so_far.met [ inl none ↦ inl (e ∙ none) | inr some ↦ inr (some.0, some.1, some.2, some.3, e ∙ some.4) ]
    by_better (inr e) =
        elim at.1
        [ inl none ↦ inl (e ∙ none) | inr some ↦ inr (record { 0 = first }, some.0, there, some.1, e ∙ some.2) ]

-- what can be moved is as good as any
pub ring-moves : (v : View) (class : Class) (one : Delivery (Local × Channel)) (local : Local) (at : Local × Channel)
    → local.0 < v.lines.lines
    → one ≡ deliveries.Moved at → IsNextAt v local class one → IsNextIn v class one
ring-moves v class one local at there is found = ((λ other third within of_class. rw is refl), by_met found.1)
  where
    by_met : (one ≡ deliveries.Nothing)
        ⊎ ((third : Channel) × IsTrue (is_of_class class third) × (one ≡ next_by local third (plan_of v local third)))
        → (one ≡ deliveries.Nothing)
        ⊎ ((other : Local) × (third : Channel) × (other.0 < v.lines.lines) × IsTrue (is_of_class class third)
        × (one ≡ next_by other third (plan_of v other third)))
    by_met (inl none) = inl none
    by_met (inr some) = inr (local, some.0, there, some.1, some.2)

-- one more line, as it is in the ring
pub ring-more_at : (v : View) (class : Class) (next one after_next : Delivery (Local × Channel)) (ring : List ℕ) (index : ℕ) (local : Local)
    → index < length ring → local.0 ≡ get_or ring index 0 → local.0 < v.lines.lines
    → IsNextSoFar v class next (drop index ring) → IsNextAt v local class one → after_next ≡ better_of next one
    → IsNextSoFar v class after_next (drop (index + 1) ring)
ring-more_at v class next one after_next ring index local within read there so_far at better =
    let begins : drop index ring ≡ get_or ring index 0 ∷ drop (suc index) ring = drop-cons ring index 0 within in
    let P : List ℕ → Type 0 = λ left. IsNextSoFar v class next left in
    let Q : ℕ → Type 0 = λ first. IsNextSoFar v class next (first ∷ drop (suc index) ring) in
    let more =
    ring-more v class next one local.0 (drop (suc index) ring) there (subst Q (sym read) (subst P begins so_far)) at in
    let R : Delivery (Local × Channel) → Type 0 = λ n. IsNextSoFar v class n (drop (index + 1) ring) in
    subst R (sym better) (rw add-one more)

-- a line of the channels is a line of the slice
pub line-there : (v : View) (lines : List LineChannels) (local : ℕ) → IsShaped v → lines ≡ v.channels
    → local < length lines → local < v.lines.lines
line-there v lines local shaped same within =
    let many = ap length same in
    let are = shaped.lines in
    omega (arith, many, are, within)

-- ---- a line with a message that can be moved is in the ring

listed-place : (ring : List ℕ) (line : ℕ) → is_listed ring line ≡ true
    → (place : ℕ) × (slice_get ring place ≡ Some line)
listed-place [] line listed = cc
listed-place (first ∷ rest) line listed =
    by_first (eqb line first) refl listed (listed-place rest line)
  where
    by_first : (same : Bool) → eqb line first ≡ same → (same || is_listed rest line) ≡ true
        → (is_listed rest line ≡ true → (place : ℕ) × (slice_get rest place ≡ Some line))
        → (place : ℕ) × (slice_get (first ∷ rest) place ≡ Some line)
    by_first true e listed later = (0, ap (λ (n : ℕ). Some n) (sym (eqb-true line first e)))
    by_first false e listed later = let found = later listed in (suc found.0, found.1)

-- a message that can be moved is mail
mail-moves : (v : View) (local : Local) (channel : Channel) → IsMove (plan_of v local channel)
    → has_mail_at v local.0 ≡ true
mail-moves v local channel moves = by_mail (has_mail_at v local.0) refl
  where
    by_mail : (mail : Bool) → has_mail_at v local.0 ≡ mail → mail ≡ true
    by_mail true e = refl
    by_mail false e =
        let idle = plan-idle v local channel (IsEmptyLine-from_no_mail (channels_at v local) e channel) in
        absurd (subst IsMove idle moves)

pub mover-stands : (p : PartsView) (class : Class) (local : Local)
    → ((line : ℕ) → has_mail_at p.view line ≡ true → is_listed p.ring line ≡ true) → CanMove p.view class local
    → (place : ℕ) × StandsAt p local place
mover-stands p class local listed can =
    listed-place p.ring local.0 (listed local.0 (mail-moves p.view local can.1 can.3))
