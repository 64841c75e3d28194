-- What the marks of a line find is what waits in its channels.
use Rattle.std.proofs.Common.{rules, ◌≡◌, ℕ, ◌+◌, ◌<◌, ◌≤◌, ◌&&◌, zero, suc, Bool, true, false, if◌then◌else◌, List, []}
use Rattle.std.proofs.Common.{◌∷◌, ◌++◌, length, map, filter, refl, ap, sym, ◌∙◌, arith, get_or, inl, inr, is_some}
use Rattle.std.proofs.Common.{count_by}
use Rattle.std.specs.List.{flat_map, range_with_len, AllByRecursion}
use Rattle.std.proofs.lemmas.Bool.{cases_lt}
use Rattle.std.proofs.lemmas.List.{get_or_past}
use Rattle.std.proofs.lemmas.List.Elements.{filter-append}
use Rattle.address_map.specs.CoreSet.{has, members}
use Rattle.address_map.proofs.CoreSets.{has-zero}
use Rattle.address_map.proofs.Members.{members-zero}
use Rattle.slice_queues.specs.declared.channel.Channel.{Channel}
use Rattle.slice_queues.specs.declared.channel.Channel.TheVariants as channels
use Rattle.slice_queues.specs.declared.channel.Class.{Class}
use Rattle.slice_queues.specs.declared.channel.Class.TheVariants as classes
use Rattle.slice_queues.specs.Class.{is_of_class}
use Rattle.slice_queues.specs.declared.mail.Mail.{Mail}
use Rattle.slice_queues.specs.Line.{CoreChannels, LineChannels, no_messages, core_at, has_request, has_forwarded}
use Rattle.slice_queues.specs.Line.{has_data, has_acks}
use Rattle.slice_queues.specs.Mail.{marks_of, Marks, IsMarked}
use Rattle.slice_queues.specs.Waiting.{req_of, fwd_of, data_of, acks_at, only_if, by_kind, cores_where, line_waiting}
use Rattle.slice_queues.specs.Waiting.{marked_waiting, is_same_channel, is_waiting, HasEachOnce, HasEachOnceIn}
use Rattle.slice_queues.proofs.OnceLaws.{count-yes, count-no}

-- of one channel that may be named a filter keeps it or not
filter-only_if : (p : Channel → Bool) (channel : Channel) (waits keeps : Bool) → p channel ≡ keeps →
    filter p (only_if waits channel) ≡ only_if (keeps && waits) channel
filter-only_if p channel false true e = refl
filter-only_if p channel false false e = refl
filter-only_if p channel true true e = rw e refl
filter-only_if p channel true false e = rw e refl

-- of channels of one kind all or none
filter-kind : (p : Channel → Bool) (name : ℕ → Channel) (keeps : Bool) → ((k : ℕ) → p (name k) ≡ keeps) →
    (ks : List ℕ) →
    filter p (map name ks) ≡ map name (if keeps then ks else [])
filter-kind p name true each [] = refl
filter-kind p name false each [] = refl
filter-kind p name true each (k ∷ ks) = rw (each k) (ap (λ rest. name k ∷ rest) (filter-kind p name true each ks))
filter-kind p name false each (k ∷ ks) = rw (each k) (filter-kind p name false each ks)

filter-acks : (p : Channel → Bool) (cores : List CoreChannels) (keeps : Bool) →
    ((to from : ℕ) → p (channels.Ack (record { 0 = to }) (record { 0 = from })) ≡ keeps) → (ks : List ℕ) →
    filter p (flat_map (acks_at cores) ks) ≡ flat_map (acks_at cores) (if keeps then ks else [])
filter-acks p cores true each [] = refl
filter-acks p cores false each [] = refl
filter-acks p cores true each (to ∷ ks) =
    filter-append p (acks_at cores to) (flat_map (acks_at cores) ks)
    ∙ rw (
      filter-kind p _ true (each to) (members (get_or cores to no_messages).acks),
      filter-acks p cores true each ks,
    ) refl
filter-acks p cores false each (to ∷ ks) =
    filter-append p (acks_at cores to) (flat_map (acks_at cores) ks)
    ∙ rw (
      filter-kind p _ false (each to) (members (get_or cores to no_messages).acks),
      filter-acks p cores false each ks,
    ) refl

-- of a line's waiting channels those of the kinds that a filter keeps
filter-line : (p : Channel → Bool) (line : LineChannels)
    (keeps_home keeps_data keeps_acks keeps_forwarded keeps_requests : Bool) → p channels.Home ≡ keeps_home →
    ((k : ℕ) → p (data_of k) ≡ keeps_data) →
    ((to from : ℕ) → p (channels.Ack (record { 0 = to }) (record { 0 = from })) ≡ keeps_acks) →
    ((k : ℕ) → p (fwd_of k) ≡ keeps_forwarded) → ((k : ℕ) → p (req_of k) ≡ keeps_requests) →
    filter p (line_waiting line)
    ≡ by_kind
    (keeps_home && is_some line.home)
    (if keeps_data then cores_where has_data line else [])
    (flat_map (acks_at line.cores) (if keeps_acks then cores_where has_acks line else []))
    (if keeps_forwarded then cores_where has_forwarded line else [])
    (if keeps_requests then cores_where has_request line else [])
filter-line p line h d a f r of_home of_data of_acks of_forwarded of_requests =
    joined (only_if (is_some line.home) channels.Home) (to_data ++ (acks ++ (forwarded ++ requests)))
    (filter-only_if p channels.Home (is_some line.home) h of_home)
    (joined to_data (acks ++ (forwarded ++ requests)) (filter-kind p data_of d of_data (cores_where has_data line))
    (joined acks (forwarded ++ requests) (filter-acks p line.cores a of_acks (cores_where has_acks line))
    (joined
    forwarded requests (filter-kind p fwd_of f of_forwarded (cores_where has_forwarded line))
    (filter-kind p req_of r of_requests (cores_where has_request line)))))
  where
    joined : (names others : List Channel) {kept left : List Channel} → filter p names ≡ kept →
        filter p others ≡ left → filter p (names ++ others) ≡ kept ++ left
    joined names others e f = filter-append p names others ∙ rw (e, f) refl

    to_data : List Channel
    to_data = map data_of (cores_where has_data line)

    acks : List Channel
    acks = flat_map (acks_at line.cores) (cores_where has_acks line)

    forwarded : List Channel
    forwarded = map fwd_of (cores_where has_forwarded line)

    requests : List Channel
    requests = map req_of (cores_where has_request line)

-- a filter of a longer range by a test that says the same, and passes nothing after the shorter one
filter-longer : (p q : ℕ → Bool) (m n a : ℕ) → n ≤ m → ((i : ℕ) → p i ≡ q i) →
    ((i : ℕ) → a + n ≤ i → q i ≡ false) → filter p (range_with_len a m) ≡ filter q (range_with_len a n)
filter-longer p q zero zero a few same none = refl
filter-longer p q zero (suc n) a few same none = absurd (omega arith)
filter-longer p q (suc m) zero a few same none =
    rw
    (same a, none a (omega arith))
    (filter-longer p q m zero (a + 1) (omega arith) same (λ i behind. none i (omega arith)))
filter-longer p q (suc m) (suc n) a few same none =
    rw
    (same a, filter-longer p q m n (a + 1) (omega arith) same (λ i behind. none i (omega arith)))
    refl

-- the cores that are marked are those whose channels pass the test
members-marked : (test : CoreChannels → Bool) (marks : ℕ) (line : LineChannels) → length line.cores ≤ 64 →
    test no_messages ≡ false → Marks test marks line.cores → members marks ≡ cores_where test line
unfolding members
members-marked test marks line few quiet marked =
    filter-longer (has marks) (λ core. test (core_at line core)) 64 (length line.cores) 0 few marked
    (λ core past. rw (get_or_past line.cores core no_messages (omega arith)) quiet)

-- what the marks of a class find in a line is what of this class waits there, in the same order
pub marked_waiting-of_class : (class : Class) (line : LineChannels) (mail : Mail) (home : Bool) →
    length line.cores ≤ 64 → IsMarked line.cores mail →
    home ≡ (is_of_class class channels.Home && is_some line.home) →
    marked_waiting home (marks_of class mail) line.cores ≡ filter (is_of_class class) (line_waiting line)
marked_waiting-of_class class line mail home few marked at_home = by_class class at_home
  where
    same : {h h' : Bool} {d d' a a' f f' r r' : List ℕ} → h ≡ h' → d ≡ d' → a ≡ a' → f ≡ f' → r ≡ r' →
        by_kind h d (flat_map (acks_at line.cores) a) f r ≡ by_kind h' d' (flat_map (acks_at line.cores) a') f' r'
    same of_home of_data of_acks of_forwarded of_requests = cc

    messages : members mail.data_messages ≡ cores_where has_data line
    messages = members-marked has_data mail.data_messages line few refl marked.data_messages

    acks : members mail.acks ≡ cores_where has_acks line
    acks = members-marked has_acks mail.acks line few refl marked.acks

    forwarded : members mail.forwarded ≡ cores_where has_forwarded line
    forwarded = members-marked has_forwarded mail.forwarded line few refl marked.forwarded

    requests : members mail.requests ≡ cores_where has_request line
    requests = members-marked has_request mail.requests line few refl marked.requests

    none : members 0 ≡ []
    none = members-zero

    kept : (class : Class) (h d a f r : Bool) → is_of_class class channels.Home ≡ h →
        ((k : ℕ) → is_of_class class (data_of k) ≡ d) →
        ((to from : ℕ) → is_of_class class (channels.Ack (record { 0 = to }) (record { 0 = from })) ≡ a) →
        ((k : ℕ) → is_of_class class (fwd_of k) ≡ f) → ((k : ℕ) → is_of_class class (req_of k) ≡ r) →
        by_kind
        (h && is_some line.home)
        (if d then cores_where has_data line else [])
        (flat_map (acks_at line.cores) (if a then cores_where has_acks line else []))
        (if f then cores_where has_forwarded line else [])
        (if r then cores_where has_request line else [])
        ≡ filter (is_of_class class) (line_waiting line)
    kept class h d a f r of_home of_data of_acks of_forwarded of_requests =
        sym (filter-line (is_of_class class) line h d a f r of_home of_data of_acks of_forwarded of_requests)

    by_class : (class : Class) → home ≡ (is_of_class class channels.Home && is_some line.home) →
        marked_waiting home (marks_of class mail) line.cores ≡ filter (is_of_class class) (line_waiting line)
    by_class classes.Any e =
        same e messages acks forwarded requests
        ∙ kept classes.Any true true true true true refl (λ k. refl) (λ to from. refl) (λ k. refl) (λ k. refl)
    by_class classes.Req e =
        same e none none none requests
        ∙ kept classes.Req false false false false true refl (λ k. refl) (λ to from. refl) (λ k. refl) (λ k. refl)
    by_class classes.Fwd e =
        same e none none forwarded none
        ∙ kept classes.Fwd false false false true false refl (λ k. refl) (λ to from. refl) (λ k. refl) (λ k. refl)
    by_class classes.Data e =
        same e messages none none none
        ∙ kept classes.Data false true false false false refl (λ k. refl) (λ to from. refl) (λ k. refl) (λ k. refl)
    by_class classes.Ack e =
        same e none acks none none
        ∙ kept classes.Ack false false true false false refl (λ k. refl) (λ to from. refl) (λ k. refl) (λ k. refl)
    by_class classes.Home e =
        same e none none none none
        ∙ kept classes.Home true false false false false refl (λ k. refl) (λ to from. refl) (λ k. refl) (λ k. refl)

-- what holds of each core of a set holds of each of its members
AllByRecursion-range : (P : ℕ → Type 0) (set : ℕ) → ((core : ℕ) → has set core ≡ true → P core) → (n from : ℕ) →
    AllByRecursion P (filter (has set) (range_with_len from n))
AllByRecursion-range P set each zero from = tt
AllByRecursion-range P set each (suc n) from =
    by_test (has set from) refl (AllByRecursion-range P set each n (from + 1))
  where
    by_test : (there : Bool) → has set from ≡ there →
        AllByRecursion P (filter (has set) (range_with_len (from + 1) n)) →
        AllByRecursion
        P
        (if there then from ∷ filter (has set) (range_with_len (from + 1) n) else filter (has set)
        (range_with_len (from + 1) n))
    by_test true e rest = (each from e, rest)
    by_test false e rest = rest

pub AllByRecursion-members : (P : ℕ → Type 0) (set : ℕ) → ((core : ℕ) → has set core ≡ true → P core) →
    AllByRecursion P (members set)
unfolding members
AllByRecursion-members P set each = AllByRecursion-range P set each 64 0

-- a core that is marked for the acknowledgements of a class is a core of the line
pub marks_of-below : (class : Class) (cores : List CoreChannels) (mail : Mail) → IsMarked cores mail → (core : ℕ) →
    has (marks_of class mail).acks core ≡ true → core < length cores
marks_of-below class cores mail marked core there =
    elim (cases_lt core (length cores)) [
      | inl below ↦ below
      | inr past ↦ absurd (clash (unmarked past class) there)
    ]
  where
    clash : {b : Bool} → b ≡ false → b ≡ true → ⊥
    clash e f = cc

    no_acks : length cores ≤ core → has mail.acks core ≡ false
    no_acks past = marked.acks core ∙ ap has_acks (get_or_past cores core no_messages past)

    unmarked : length cores ≤ core → (class : Class) → has (marks_of class mail).acks core ≡ false
    unmarked past classes.Any = no_acks past
    unmarked past classes.Ack = no_acks past
    unmarked past classes.Req = has-zero core
    unmarked past classes.Fwd = has-zero core
    unmarked past classes.Data = has-zero core
    unmarked past classes.Home = has-zero core

-- a count over what a filter keeps, where the filter says the same of all that counts
count-filter : {A : Type 0} (counts keeps : A → Bool) (kept : Bool) → ((x : A) → counts x ≡ true → keeps x ≡ kept) →
    (xs : List A) → count_by counts (filter keeps xs) ≡ (if kept then count_by counts xs else 0)
count-filter counts keeps true same [] = refl
count-filter counts keeps false same [] = refl
count-filter {A} counts keeps kept same (x ∷ xs) =
    by_test (counts x) (keeps x) refl refl kept same (count-filter counts keeps kept same xs)
  where
    by_test : (counted held : Bool) → counts x ≡ counted → keeps x ≡ held →
        (kept : Bool) → ((y : A) → counts y ≡ true → keeps y ≡ kept) →
        count_by counts (filter keeps xs) ≡ (if kept then count_by counts xs else 0) →
        count_by counts (if held then x ∷ filter keeps xs else filter keeps xs)
        ≡ (if kept then count_by counts (x ∷ xs) else 0)
    by_test true true e f true same rest =
        count-yes counts x (filter keeps xs) e ∙ ap (λ n. 1 + n) rest ∙ sym (count-yes counts x xs e)
    by_test true true e f false same rest = let clash : true ≡ false = sym f ∙ same x e in cc
    by_test true false e f true same rest = let clash : false ≡ true = sym f ∙ same x e in cc
    by_test true false e f false same rest = rest
    by_test false true e f true same rest = count-no counts x (filter keeps xs) e ∙ rest ∙ sym (count-no counts x xs e)
    by_test false true e f false same rest = count-no counts x (filter keeps xs) e ∙ rest
    by_test false false e f true same rest = rest ∙ sym (count-no counts x xs e)
    by_test false false e f false same rest = rest

-- channels of one name are of one class
same_class : (class : Class) (channel name : Channel) → is_same_channel channel name ≡ true →
    is_of_class class name ≡ is_of_class class channel
same_class class channel name same = search rules

-- where each channel with a message is named once, each of a class is that is kept
pub HasEachOnceIn-from_all : (class : Class) (line : LineChannels) (names : List Channel) → HasEachOnce line names →
    HasEachOnceIn class line (filter (is_of_class class) names)
HasEachOnceIn-from_all class line names once channel =
    count-filter (is_same_channel channel) (is_of_class class) (is_of_class class channel)
    (λ name same. same_class class channel name same) names
    ∙ both (is_of_class class channel) (is_waiting line channel) (once channel)
  where
    both : (kept : Bool) {n : ℕ} (waits : Bool) → n ≡ (if waits then 1 else 0) →
        (if kept then n else 0) ≡ (if kept && waits then 1 else 0)
    both true waits e = e
    both false waits e = refl

-- all channels are of the class of any
pub filter-any : (names : List Channel) → filter (is_of_class classes.Any) names ≡ names
filter-any [] = refl
filter-any (name ∷ names) = ap (λ rest. name ∷ rest) (filter-any names)
