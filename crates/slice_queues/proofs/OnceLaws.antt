-- A line's waiting channels: each is in the list once, and no other is.
use Rattle.std.proofs.Common.{◌≡◌, ◌≢◌, ℕ, ◌+◌, ◌<◌, ◌≤◌, ◌==◌, Bool, true, false, cond, if◌then◌else◌, List, [], ◌∷◌}
use Rattle.std.proofs.Common.{◌++◌, length, map, filter, sum_by, count_by, zero, suc, refl, ap, sym, ◌∙◌, arith, inl}
use Rattle.std.proofs.Common.{inr, get_or, is_some, nat_lt, ◌&&◌, lt-ltb, le-ltb, eq-eqb, Option, Some, None, add-zero}
use Rattle.std.proofs.Common.{zero-add}
use Rattle.std.specs.List.{flat_map, range_with_len}
use Rattle.std.proofs.lemmas.Bool.{cases_eq, cases_lt, ne_eqb}
use Rattle.std.proofs.lemmas.List.{length-map, get_or_past}
use Rattle.std.proofs.lemmas.List.Sums.{sum_by-append, sum_by-cons}
use Rattle.address_map.specs.declared.address.CoreId.{CoreId}
use Rattle.slice_queues.specs.declared.channel.Channel.{Channel}
use Rattle.slice_queues.specs.declared.channel.Channel.TheVariants as channels
use Rattle.slice_queues.specs.declared.message.RequestMessage.{RequestMessage}
use Rattle.slice_queues.specs.declared.message.DataMessage.{DataMessage}
use Rattle.address_map.specs.declared.block.Block.{Block}
use Rattle.address_map.specs.CoreSet.{has, members}
use Rattle.slice_queues.specs.Line.{CoreChannels, LineChannels, no_messages, core_at, has_request, has_forwarded}
use Rattle.slice_queues.specs.Line.{has_data, has_acks, request_messages, data_messages, home_messages, ack_messages}
use Rattle.slice_queues.specs.Waiting.{req_of, fwd_of, data_of, acks_to, acks_at, only_if, cores_where, line_waiting}
use Rattle.slice_queues.specs.Waiting.{is_same_channel, is_waiting, is_from_core, HasEachOnce}
use Rattle.address_map.proofs.CoreSets.{has-zero}

-- how often a channel occurs in a list
abbrev pub times : Channel → List Channel → ℕ
times channel names = count_by (is_same_channel channel) names

-- a name that passes the test counts one, and another none
pub count-yes : {A : Type 0} (p : A → Bool) (x : A) (xs : List A) → p x ≡ true → count_by p (x ∷ xs) ≡ 1 + count_by p xs
count-yes p x xs e = sum_by-append (λ y. cond (p y) 1 0) (x ∷ []) xs ∙ rw e refl

pub count-no : {A : Type 0} (p : A → Bool) (x : A) (xs : List A) → p x ≡ false → count_by p (x ∷ xs) ≡ count_by p xs
count-no p x xs e = sum_by-append (λ y. cond (p y) 1 0) (x ∷ []) xs ∙ rw e (zero-add _)

-- a count over mapped elements, by what the test says of each
pub count-map : {A B : Type 0} (p : B → Bool) (q : A → Bool) (f : A → B) → ((x : A) → p (f x) ≡ q x) → (xs : List A) →
    count_by p (map f xs) ≡ count_by q xs
count-map p q f same [] = refl
count-map {A} {B} p q f same (x ∷ xs) = by_test (q x) refl (count-map p q f same xs)
  where
    by_test : (b : Bool) → q x ≡ b → count_by p (map f xs) ≡ count_by q xs →
        count_by p (f x ∷ map f xs) ≡ count_by q (x ∷ xs)
    by_test true e rest =
        count-yes p (f x) (map f xs) (same x ∙ e) ∙ ap (λ n. 1 + n) rest ∙ sym (count-yes q x xs e)
    by_test false e rest = count-no p (f x) (map f xs) (same x ∙ e) ∙ rest ∙ sym (count-no q x xs e)

pub count-never : {A : Type 0} (xs : List A) → count_by (λ x. false) xs ≡ 0
count-never [] = refl
count-never (x ∷ xs) = count-no (λ y. false) x xs refl ∙ count-never xs

-- a count over lists end to end is the sum of their counts
count-flat_map : {A B : Type 0} (p : B → Bool) (f : A → List B) (xs : List A) →
    count_by p (flat_map f xs) ≡ sum_by (λ x. count_by p (f x)) xs
count-flat_map p f [] = refl
count-flat_map p f (x ∷ xs) =
    sum_by-append (λ y. cond (p y) 1 0) (f x) (flat_map f xs)
    ∙ ap (λ n. count_by p (f x) + n) (count-flat_map p f xs)
    ∙ sym (sum_by-cons (λ y. count_by p (f y)) x xs)

-- numbers of a range to which nothing belongs sum up to nothing
sum-none : (p : ℕ → Bool) (f : ℕ → ℕ) (n a : ℕ) → ((i : ℕ) → a ≤ i → i < a + n → f i ≡ 0) →
    sum_by f (filter p (range_with_len a n)) ≡ 0
sum-none p f zero a none = refl
sum-none p f (suc n) a none =
    skipped (p a) _ (none a (omega arith) (omega arith))
    (sum-none p f n (a + 1) (λ i from within. none i (omega arith) (omega arith)))
  where
    skipped : (b : Bool) (rest : List ℕ) → f a ≡ 0 → sum_by f rest ≡ 0 →
        sum_by f (if b then a ∷ rest else rest) ≡ 0
    skipped false rest e h = h
    skipped true rest e h = sum_by-cons f a rest ∙ rw (e, h) refl

-- where something belongs to one number alone, the sum is that, if the test holds of it
sum-one : (p : ℕ → Bool) (f : ℕ → ℕ) (d n a : ℕ) → a ≤ d → d < a + n → ((i : ℕ) → i ≢ d → f i ≡ 0) →
    sum_by f (filter p (range_with_len a n)) ≡ (if p d then f d else 0)
sum-one p f d zero a from within others = absurd (omega arith)
sum-one p f d (suc n) a from within others =
    elim (cases_eq a d) [
      | inl here ↦
          found (p a) (p d) _ (ap p here) (ap f here)
          (sum-none p f n (a + 1) (λ i behind below. others i (λ e. absurd (omega arith))))
      | inr apart ↦ passed (p a) _ (others a apart) (sum-one p f d n (a + 1) (omega arith) (omega arith) others)
    ]
  where
    found : (b c : Bool) (rest : List ℕ) → b ≡ c → f a ≡ f d → sum_by f rest ≡ 0 →
        sum_by f (if b then a ∷ rest else rest) ≡ (if c then f d else 0)
    found false c rest same e h = rw (← same) h
    found true c rest same e h = rw (← same) (sum_by-cons f a rest ∙ rw (e, h) (add-zero (f d)))

    passed : (b : Bool) (rest : List ℕ) → f a ≡ 0 → sum_by f rest ≡ (if p d then f d else 0) →
        sum_by f (if b then a ∷ rest else rest) ≡ (if p d then f d else 0)
    passed false rest e h = h
    passed true rest e h = sum_by-cons f a rest ∙ rw (e, h) (zero-add _)

-- over the cores of a line whose channels pass a test that no empty channels pass
sum-cores_where : (test : CoreChannels → Bool) (f : ℕ → ℕ) (line : LineChannels) (d : ℕ) → test no_messages ≡ false →
    ((i : ℕ) → i ≢ d → f i ≡ 0) →
    sum_by f (cores_where test line) ≡ (if test (core_at line d) then f d else 0)
sum-cores_where test f line d quiet others =
    elim (cases_lt d (length line.cores)) [
      | inl within ↦
          sum-one
          (λ core. test (core_at line core)) f d (length line.cores) 0 (omega arith) (omega arith) others
      | inr past ↦
          sum-none (λ core. test (core_at line core)) f (length line.cores) 0
          (λ i from within. others i (λ e. absurd (omega arith)))
          ∙ sym (nothing past)
    ]
  where
    nothing : length line.cores ≤ d → (if test (core_at line d) then f d else 0) ≡ 0
    nothing past = rw (get_or_past line.cores d no_messages past, quiet) refl

-- a number counts itself once, and no other
counts_itself : (d : ℕ) (there : Bool) →
    ◌≡◌ {A = ℕ} (if there then cond (d == d) 1 0 else 0) (if there then 1 else 0)
counts_itself d there = rw (eq-eqb d d refl) refl

counts_no_other : (d i : ℕ) → i ≢ d → ◌≡◌ {A = ℕ} (cond (d == i) 1 0) 0
counts_no_other d i apart = rw (ne_eqb d i (λ e. apart (sym e))) refl

count-cores_where : (test : CoreChannels → Bool) (line : LineChannels) (d : ℕ) → test no_messages ≡ false →
    count_by (λ core. d == core) (cores_where test line) ≡ (if test (core_at line d) then 1 else 0)
count-cores_where test line d quiet =
    sum-cores_where test (λ core. cond (d == core) 1 0) line d quiet (counts_no_other d)
    ∙ counts_itself d (test (core_at line d))

count-members : (set d : ℕ) → count_by (λ core. d == core) (members set) ≡ (if nat_lt d 64 && has set d then 1 else 0)
unfolding members
count-members set d =
    elim (cases_lt d 64) [
      | inl within ↦
          rw (lt-ltb d 64 within)
          (sum-one (has set) (λ core. cond (d == core) 1 0) d 64 0 (omega arith) (omega arith) (counts_no_other d)
          ∙ counts_itself d (has set d))
      | inr past ↦
          rw (le-ltb d 64 past)
          (sum-none
          (has set) (λ core. cond (d == core) 1 0) 64 0
          (λ i from within. counts_no_other d i (λ e. absurd (omega arith))))
    ]

pub and-false : (b : Bool) → (b && false) ≡ false
and-false true = refl
and-false false = refl

-- channels of another kind
times-none : (channel : Channel) (name : ℕ → Channel) → ((k : ℕ) → is_same_channel channel (name k) ≡ false) →
    (ks : List ℕ) → times channel (map name ks) ≡ 0
times-none channel name differs ks = count-map (is_same_channel channel) (λ k. false) name differs ks ∙ count-never ks

times-no_acks : (channel : Channel) (cores : List CoreChannels) →
    ((to from : ℕ) → is_same_channel channel (channels.Ack (record { 0 = to }) (record { 0 = from })) ≡ false) →
    (ks : List ℕ) → times channel (flat_map (acks_at cores) ks) ≡ 0
times-no_acks channel cores differs [] = refl
times-no_acks channel cores differs (to ∷ ks) =
    sum_by-append (λ name. cond (is_same_channel channel name) 1 0) (acks_at cores to) (flat_map (acks_at cores) ks)
    ∙ rw (
      times-none channel _ (differs to) (members (get_or cores to no_messages).acks),
      times-no_acks channel cores differs ks,
    ) refl

times-no_home : (channel : Channel) (waits : Bool) → is_same_channel channel channels.Home ≡ false →
    times channel (only_if waits channels.Home) ≡ 0
times-no_home channel true differs = count-no (is_same_channel channel) channels.Home [] differs
times-no_home channel false differs = refl

-- an acknowledgement is identified by its receiver and its sender
times-acks : (to from : CoreId) (core set : ℕ) →
    times (channels.Ack to from) (acks_to core (members set))
    ≡ (if to.0 == core then (if nat_lt from.0 64 && has set from.0 then 1 else 0) else 0)
times-acks to from core set = by_core (to.0 == core) refl
  where
    by_core : (here : Bool) → (to.0 == core) ≡ here →
        times (channels.Ack to from) (acks_to core (members set))
        ≡ (if here then (if nat_lt from.0 64 && has set from.0 then 1 else 0) else 0)
    by_core false e = times-none (channels.Ack to from) _ (λ k. rw e refl) (members set)
    by_core true e =
        count-map (is_same_channel (channels.Ack to from)) (λ k. from.0 == k) _ (λ k. rw e refl) (members set)
        ∙ count-members set from.0

times-acks_waiting : (to from : CoreId) (line : LineChannels) →
    times (channels.Ack to from) (flat_map (acks_at line.cores) (cores_where has_acks line))
    ≡ (if nat_lt from.0 64 && has (core_at line to.0).acks from.0 then 1 else 0)
times-acks_waiting to from line =
    count-flat_map (is_same_channel (channels.Ack to from)) (acks_at line.cores) (cores_where has_acks line)
    ∙ sum-cores_where has_acks (λ core. times (channels.Ack to from) (acks_at line.cores core)) line to.0 refl others
    ∙ ap (λ n. if has_acks (core_at line to.0) then n else 0) here
    ∙ some_or_none (core_at line to.0).acks
  where
    others : (core : ℕ) → core ≢ to.0 → times (channels.Ack to from) (acks_at line.cores core) ≡ 0
    others core apart =
        times-acks to from core (core_at line core).acks ∙ rw (ne_eqb to.0 core (λ e. apart (sym e))) refl

    here : times (channels.Ack to from) (acks_at line.cores to.0)
        ≡ (if nat_lt from.0 64 && has (core_at line to.0).acks from.0 then 1 else 0)
    here = times-acks to from to.0 (core_at line to.0).acks ∙ rw (eq-eqb to.0 to.0 refl) refl

    some_or_none : (set : ℕ) →
        ◌≡◌ {A = ℕ} (if nat_lt 0 set then (if nat_lt from.0 64 && has set from.0 then 1 else 0) else 0)
        (if nat_lt from.0 64 && has set from.0 then 1 else 0)
    some_or_none zero = rw (has-zero from.0, and-false (nat_lt from.0 64)) refl
    some_or_none (suc set) = rw (lt-ltb 0 (suc set) (omega arith)) refl

-- a part of a line that has an element is a channel that has a message
waits-request : (request : Option RequestMessage) → is_some request ≡ nat_lt 0 (length (request_messages request))
waits-request None = refl
waits-request (Some message) = refl

waits-data : (message : Option DataMessage) → is_some message ≡ nat_lt 0 (length (data_messages message))
waits-data None = refl
waits-data (Some message) = refl

waits-ack : (waits : Bool) → waits ≡ nat_lt 0 (length (ack_messages waits))
waits-ack true = refl
waits-ack false = refl

waits-home : (home : Option Block) → is_some home ≡ nat_lt 0 (length (home_messages home))
waits-home None = refl
waits-home (Some block) = refl

-- a line's channels are counted kind by kind
times-line : (channel : Channel) (line : LineChannels) (h d a f r x : ℕ) →
    times channel (only_if (is_some line.home) channels.Home) ≡ h →
    times channel (map data_of (cores_where has_data line)) ≡ d →
    times channel (flat_map (acks_at line.cores) (cores_where has_acks line)) ≡ a →
    times channel (map fwd_of (cores_where has_forwarded line)) ≡ f →
    times channel (map req_of (cores_where has_request line)) ≡ r →
    h + (d + (a + (f + r))) ≡ x →
    times channel (line_waiting line) ≡ x
times-line channel line h d a f r x of_home of_data of_acks of_forwarded of_requests sum =
    joined (only_if (is_some line.home) channels.Home) (to_data ++ (acks ++ (forwarded ++ requests))) of_home
    (joined to_data (acks ++ (forwarded ++ requests)) of_data
    (joined acks (forwarded ++ requests) of_acks (joined forwarded requests of_forwarded of_requests)))
    ∙ sum
  where
    joined : (names others : List Channel) {m n : ℕ} → times channel names ≡ m → times channel others ≡ n →
        times channel (names ++ others) ≡ m + n
    joined names others e f =
        sum_by-append (λ name. cond (is_same_channel channel name) 1 0) names others ∙ rw (e, f) refl

    to_data : List Channel
    to_data = map data_of (cores_where has_data line)

    acks : List Channel
    acks = flat_map (acks_at line.cores) (cores_where has_acks line)

    forwarded : List Channel
    forwarded = map fwd_of (cores_where has_forwarded line)

    requests : List Channel
    requests = map req_of (cores_where has_request line)

-- a channel occurs once among a line's waiting channels where a message waits in it, and else not at all
pub times-line_waiting : (line : LineChannels) (channel : Channel) →
    times channel (line_waiting line) ≡ (if is_from_core channel && is_waiting line channel then 1 else 0)
times-line_waiting line (channels.Req d) =
    times-line (channels.Req d) line 0 0 0 0 _ _ (times-no_home (channels.Req d) (is_some line.home) refl)
    (times-none (channels.Req d) data_of (λ k. refl) (cores_where has_data line))
    (times-no_acks (channels.Req d) line.cores (λ to from. refl) (cores_where has_acks line))
    (times-none (channels.Req d) fwd_of (λ k. refl) (cores_where has_forwarded line))
    (count-map
    (is_same_channel (channels.Req d)) (λ core. d.0 == core) req_of (λ k. refl) (cores_where has_request line)
    ∙ count-cores_where has_request line d.0 refl)
    (omega arith ∙ ap (λ waits. if waits then 1 else 0) (waits-request (core_at line d.0).request))
times-line_waiting line (channels.Fwd d) =
    times-line (channels.Fwd d) line 0 0 0 _ 0 _ (times-no_home (channels.Fwd d) (is_some line.home) refl)
    (times-none (channels.Fwd d) data_of (λ k. refl) (cores_where has_data line))
    (times-no_acks (channels.Fwd d) line.cores (λ to from. refl) (cores_where has_acks line))
    (count-map
    (is_same_channel (channels.Fwd d)) (λ core. d.0 == core) fwd_of (λ k. refl) (cores_where has_forwarded line)
    ∙ count-cores_where has_forwarded line d.0 refl)
    (times-none (channels.Fwd d) req_of (λ k. refl) (cores_where has_request line))
    (omega arith ∙ ap (λ n. if nat_lt 0 n then 1 else 0) (sym (length-map (core_at line d.0).forwarded _)))
times-line_waiting line (channels.Data d) =
    times-line (channels.Data d) line 0 _ 0 0 0 _ (times-no_home (channels.Data d) (is_some line.home) refl)
    (count-map (is_same_channel (channels.Data d)) (λ core. d.0 == core) data_of (λ k. refl) (cores_where has_data line)
    ∙ count-cores_where has_data line d.0 refl)
    (times-no_acks (channels.Data d) line.cores (λ to from. refl) (cores_where has_acks line))
    (times-none (channels.Data d) fwd_of (λ k. refl) (cores_where has_forwarded line))
    (times-none (channels.Data d) req_of (λ k. refl) (cores_where has_request line))
    (omega arith ∙ ap (λ waits. if waits then 1 else 0) (waits-data (core_at line d.0).data))
times-line_waiting line (channels.Ack to from) =
    times-line (channels.Ack to from) line 0 0 _ 0 0 _ (times-no_home (channels.Ack to from) (is_some line.home) refl)
    (times-none (channels.Ack to from) data_of (λ k. refl) (cores_where has_data line))
    (times-acks_waiting to from line)
    (times-none (channels.Ack to from) fwd_of (λ k. refl) (cores_where has_forwarded line))
    (times-none (channels.Ack to from) req_of (λ k. refl) (cores_where has_request line))
    (omega arith
    ∙ ap (λ waits. if nat_lt from.0 64 && waits then 1 else 0) (waits-ack (has (core_at line to.0).acks from.0)))
times-line_waiting line channels.Home =
    times-line channels.Home line _ 0 0 0 0 _ (at_home (is_some line.home))
    (times-none channels.Home data_of (λ k. refl) (cores_where has_data line))
    (times-no_acks channels.Home line.cores (λ to from. refl) (cores_where has_acks line))
    (times-none channels.Home fwd_of (λ k. refl) (cores_where has_forwarded line))
    (times-none channels.Home req_of (λ k. refl) (cores_where has_request line))
    (omega arith ∙ ap (λ waits. if waits then 1 else 0) (waits-home line.home))
  where
    at_home : (waits : Bool) → times channels.Home (only_if waits channels.Home) ≡ (if waits then 1 else 0)
    at_home true = refl
    at_home false = refl

-- where all senders are cores, each channel of a line is found that has a message
pub line_waiting-once : (line : LineChannels) →
    ((to from : ℕ) → has (core_at line to).acks from ≡ true → from < 64) → HasEachOnce line (line_waiting line)
line_waiting-once line bound (channels.Req d) = times-line_waiting line (channels.Req d)
line_waiting-once line bound (channels.Fwd d) = times-line_waiting line (channels.Fwd d)
line_waiting-once line bound (channels.Data d) = times-line_waiting line (channels.Data d)
line_waiting-once line bound (channels.Ack to from) =
    times-line_waiting line (channels.Ack to from)
    ∙ ap (λ waits. if waits then 1 else 0) (of_core (has (core_at line to.0).acks from.0) (bound to.0 from.0))
  where
    of_core : (waits : Bool) → (waits ≡ true → from.0 < 64) →
        (nat_lt from.0 64 && nat_lt 0 (length (ack_messages waits))) ≡ nat_lt 0 (length (ack_messages waits))
    of_core true known = rw (lt-ltb from.0 64 (known refl)) refl
    of_core false known = and-false (nat_lt from.0 64)
line_waiting-once line bound channels.Home = times-line_waiting line channels.Home
