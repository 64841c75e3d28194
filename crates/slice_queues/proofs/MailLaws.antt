-- The marks of a line follow each send and take.
use Rattle.std.proofs.Common.{rules, IsTrue, ◌↔◌, ◌≡◌, ℕ, ◌<◌, ◌≤◌, ◌==◌, ◌||◌, ◌++◌, not, zero, suc, drop, Bool, true}
use Rattle.std.proofs.Common.{false, if◌then◌else◌, List, [], ◌∷◌, length, refl, ap, sym, ◌∙◌, arith, Option, Some}
use Rattle.std.proofs.Common.{None, replicate, get_or, inl, inr, is_some, nat_lt, bit_or, max}
use Rattle.std.specs.Int.{bit_at}
use Rattle.std.specs.List.{list_any}
use Rattle.std.proofs.Math.ListN.{set}
use Rattle.std.proofs.Math.Bool.{or_comm}
use Rattle.std.proofs.lemmas.Bool.{cases_eq, lt-ltb}
use Rattle.std.proofs.lemmas.List.{get_or-set_same, get_or-set_other}
use Rattle.std.proofs.lemmas.Nat.Bits.{bit_at_or, bit_at-lt}
use Rattle.address_map.specs.CoreSet.{has, with, without}
use Rattle.address_map.proofs.CoreSets.{has-zero, has-with_same, has-with_other, has-without_same, has-without_other}
use Rattle.address_map.proofs.CoreSets.{without-missing, zero-from_none}
use Rattle.address_map.specs.declared.block.Block.{Block}
use Rattle.slice_queues.specs.declared.channel.Channel.TheVariants as channels
use Rattle.slice_queues.specs.declared.message.RequestMessage.{RequestMessage}
use Rattle.slice_queues.specs.declared.message.ForwardedMessage.{ForwardedMessage}
use Rattle.slice_queues.specs.declared.message.DataMessage.{DataMessage}
use Rattle.slice_queues.specs.declared.lines.LineHead.{LineHead}
use Rattle.slice_queues.specs.declared.mail.Mail.{Mail}
use Rattle.slice_queues.specs.Count.{shows_mail}
use Rattle.slice_queues.specs.Line.{CoreChannels, LineChannels, no_messages, core_at, has_request, has_forwarded}
use Rattle.slice_queues.specs.Line.{has_data, has_acks, has_messages, has_mail, IsEmptyLine, IsWithinCores}
use Rattle.slice_queues.specs.Mail.{no_marks, all_marked, Marks, IsMarked, IsLine}
use Rattle.slice_queues.proofs.LineLaws.{IsWithinCores-set, IsWithinCores-with_ack, IsWithinCores-without_ack}
use Rattle.slice_queues.proofs.LineLaws.{IsWithinCores-empty, IsEmptyLine-from_cores, cores-from_IsEmptyLine}
use Rattle.slice_queues.proofs.LineLaws.{None-from_home, read_default, read-replicate}

-- a core that got a message is marked
pub Marks-with : (test : CoreChannels → Bool) (marks : ℕ) (cores : List CoreChannels) (core : ℕ) (new : CoreChannels) →
    core < 64 → core < length cores → test new ≡ true →
    Marks test marks cores → Marks test (with marks core) (set cores core new)
Marks-with test marks cores core new few there waits marked other =
    elim (cases_eq other core) [
      | inl same ↦
          rw same (has-with_same marks core few ∙ sym waits
          ∙ ap test (sym (get_or-set_same cores core new no_messages there)))
      | inr apart ↦
          has-with_other marks core other apart
          ∙ marked other
          ∙ ap test (sym (get_or-set_other cores core other new no_messages apart))
    ]

-- a core that has no message any more is not
pub Marks-without : (test : CoreChannels →
    Bool) (marks : ℕ) (cores : List CoreChannels) (core : ℕ) (new : CoreChannels) →
    core < length cores → test new ≡ false →
    Marks test marks cores → Marks test (without marks core) (set cores core new)
Marks-without test marks cores core new there none marked other =
    elim (cases_eq other core) [
      | inl same ↦
          rw same (has-without_same marks core ∙ sym none
          ∙ ap test (sym (get_or-set_same cores core new no_messages there)))
      | inr apart ↦
          has-without_other marks core other apart
          ∙ marked other
          ∙ ap test (sym (get_or-set_other cores core other new no_messages apart))
    ]

-- where the test says the same of the core as before, the marks stay
pub Marks-kept : (test : CoreChannels →
    Bool) (marks : ℕ) (cores : List CoreChannels) (core : ℕ) (old new : CoreChannels) →
    core < length cores → old ≡ get_or cores core old → test new ≡ test old →
    Marks test marks cores → Marks test marks (set cores core new)
Marks-kept test marks cores core old new there read same_test marked other =
    elim (cases_eq other core) [
      | inl same ↦
          rw
          same (marked core
          ∙ ap test (read_default cores core no_messages old there ∙ sym read)
          ∙ sym same_test
          ∙ ap test (sym (get_or-set_same cores core new no_messages there)))
      | inr apart ↦
          marked other ∙ ap test (sym (get_or-set_other cores core other new no_messages apart))
    ]

-- a core stays marked while a message is left
pub Marks-unless : (test : CoreChannels →
    Bool) (marks : ℕ) (cores : List CoreChannels) (core : ℕ) (old new : CoreChannels) →
    core < length cores → old ≡ get_or cores core old → (test new ≡ true → test old ≡ true) →
    Marks test marks cores →
    Marks test (if test new then marks else without marks core) (set cores core new)
Marks-unless test marks cores core old new there read waited marked = by_test (test new) refl
  where
    by_test : (waits : Bool) → test new ≡ waits →
        Marks test (if waits then marks else without marks core) (set cores core new)
    by_test true e = Marks-kept test marks cores core old new there read (e ∙ sym (waited e)) marked
    by_test false e = Marks-without test marks cores core new there e marked

-- what a change of one core's acknowledgements leaves as it was
pub IsWithinCores-kept : (cores : List CoreChannels) (core : ℕ) (old new : CoreChannels) →
    core < length cores → old ≡ get_or cores core old → new.acks ≡ old.acks →
    IsWithinCores cores → IsWithinCores (set cores core new)
IsWithinCores-kept cores core old new there read same within = IsWithinCores-set cores core new within bound
  where
    here : old ≡ get_or cores core no_messages
    here = read ∙ read_default cores core old no_messages there

    bound : (from : ℕ) → has new.acks from ≡ true → from < length cores
    bound from h =
        within.senders_are_cores
        core
        from (ap (λ k. has k.acks from) (sym here)
        ∙ ap (λ acks. has acks from) (sym same)
        ∙ h)

-- a core of a line is below 64
below_64 : (cores : List CoreChannels) (core : ℕ) → core < length cores → IsWithinCores cores → core < 64
below_64 cores core there within = omega (arith, within.at_most_64)

-- more than none
some : (n : ℕ) → nat_lt 0 (suc n) ≡ true
some n = lt-ltb 0 (suc n) (omega arith)

-- a set that has a core isn't 0
some-from_has : (set core : ℕ) → has set core ≡ true → nat_lt 0 set ≡ true
some-from_has zero core there = let gone : false ≡ true = sym (has-zero core) ∙ there in cc gone
some-from_has (suc set) core there = some set

-- a change of a core's request, and so on, and of its marks
pub IsLine-request : (cores : List CoreChannels) (mail : Mail) (core : ℕ) (old new : CoreChannels)
    (request : Option RequestMessage) (marks : ℕ) →
    core < length cores → old ≡ get_or cores core old → new ≡ record old { request = request } →
    Marks has_request marks (set cores core new) → IsLine cores mail →
    IsLine (set cores core new) (record mail { requests = marks })
IsLine-request cores mail core old new request marks there read is marked line = record {
  within = IsWithinCores-kept cores core old new there read (ap (λ k. k.acks) is) line.within;
  marked = record {
    requests = marked;
    forwarded = Marks-kept has_forwarded mail.forwarded cores core old new there read
        (ap has_forwarded is) line.marked.forwarded;
    data_messages = Marks-kept has_data mail.data_messages cores core old new there read
        (ap has_data is) line.marked.data_messages;
    acks = Marks-kept has_acks mail.acks cores core old new there read (ap has_acks is) line.marked.acks;
  };
}

pub IsLine-forwarded : (cores : List CoreChannels) (mail : Mail) (core : ℕ) (old new : CoreChannels)
    (forwarded : List ForwardedMessage) (marks : ℕ) →
    core < length cores → old ≡ get_or cores core old → new ≡ record old { forwarded = forwarded } →
    Marks has_forwarded marks (set cores core new) → IsLine cores mail →
    IsLine (set cores core new) (record mail { forwarded = marks })
IsLine-forwarded cores mail core old new forwarded marks there read is marked line = record {
  within = IsWithinCores-kept cores core old new there read (ap (λ k. k.acks) is) line.within;
  marked = record {
    requests = Marks-kept has_request mail.requests cores core old new there read
        (ap has_request is) line.marked.requests;
    forwarded = marked;
    data_messages = Marks-kept has_data mail.data_messages cores core old new there read
        (ap has_data is) line.marked.data_messages;
    acks = Marks-kept has_acks mail.acks cores core old new there read (ap has_acks is) line.marked.acks;
  };
}

pub IsLine-data : (cores : List CoreChannels) (mail : Mail) (core : ℕ) (old new : CoreChannels)
    (message : Option DataMessage) (marks : ℕ) →
    core < length cores → old ≡ get_or cores core old → new ≡ record old { «data» = message } →
    Marks has_data marks (set cores core new) → IsLine cores mail →
    IsLine (set cores core new) (record mail { data_messages = marks })
IsLine-data cores mail core old new message marks there read is marked line = record {
  within = IsWithinCores-kept cores core old new there read (ap (λ k. k.acks) is) line.within;
  marked = record {
    requests = Marks-kept has_request mail.requests cores core old new there read
        (ap has_request is) line.marked.requests;
    forwarded = Marks-kept has_forwarded mail.forwarded cores core old new there read
        (ap has_forwarded is) line.marked.forwarded;
    data_messages = marked;
    acks = Marks-kept has_acks mail.acks cores core old new there read (ap has_acks is) line.marked.acks;
  };
}

pub IsLine-acks : (cores : List CoreChannels) (mail : Mail) (core : ℕ) (old new : CoreChannels) (acks marks : ℕ) →
    core < length cores → old ≡ get_or cores core old → new ≡ record old { acks = acks } →
    IsWithinCores (set cores core new) → Marks has_acks marks (set cores core new) → IsLine cores mail →
    IsLine (set cores core new) (record mail { acks = marks })
IsLine-acks cores mail core old new acks marks there read is within marked line = record {
  within = within;
  marked = record {
    requests = Marks-kept has_request mail.requests cores core old new there read
        (ap has_request is) line.marked.requests;
    forwarded = Marks-kept has_forwarded mail.forwarded cores core old new there read
        (ap has_forwarded is) line.marked.forwarded;
    data_messages = Marks-kept has_data mail.data_messages cores core old new there read
        (ap has_data is) line.marked.data_messages;
    acks = marked;
  };
}

-- a message that was sent, or taken: its core is marked, or not, and the line is as it should be
pub IsLine-sent_request : (cores : List CoreChannels) (mail : Mail) (core : ℕ) (old new : CoreChannels)
    (message : RequestMessage) (marks : ℕ) →
    core < length cores → old ≡ get_or cores core old → new ≡ record old { request = Some message } →
    marks ≡ with mail.requests core → IsLine cores mail →
    IsLine (set cores core new) (record mail { requests = marks })
IsLine-sent_request cores mail core old new message marks there read is marks_is line =
    let few : core < 64 = below_64 cores core there line.within in
    IsLine-request cores mail core old new (Some message) marks there read is
    (rw marks_is (Marks-with has_request mail.requests cores core new few there
    (ap has_request is) line.marked.requests))
    line

pub IsLine-taken_request : (cores : List CoreChannels) (mail : Mail) (core : ℕ) (old new : CoreChannels) (marks : ℕ) →
    core < length cores → old ≡ get_or cores core old → new ≡ record old { request = None } →
    marks ≡ without mail.requests core → IsLine cores mail →
    IsLine (set cores core new) (record mail { requests = marks })
IsLine-taken_request cores mail core old new marks there read is marks_is line =
    IsLine-request cores mail core old new None marks there read is
    (rw marks_is (Marks-without has_request mail.requests cores core new there
    (ap has_request is) line.marked.requests))
    line

pub IsLine-sent_forwarded : (cores : List CoreChannels) (mail : Mail) (core : ℕ) (old new : CoreChannels)
    (message : ForwardedMessage) (marks : ℕ) →
    core < length cores → old ≡ get_or cores core old → new ≡ record old { forwarded = old.forwarded ++ message ∷ [] } →
    marks ≡ with mail.forwarded core → IsLine cores mail →
    IsLine (set cores core new) (record mail { forwarded = marks })
IsLine-sent_forwarded cores mail core old new message marks there read is marks_is line =
    let few : core < 64 = below_64 cores core there line.within in
    let waits : has_forwarded new ≡ true = ap has_forwarded is ∙ some_behind old.forwarded in
    IsLine-forwarded cores mail core old new (old.forwarded ++ message ∷ []) marks there read is
    (rw marks_is (Marks-with has_forwarded mail.forwarded cores core new few there waits line.marked.forwarded)) line
  where
    some_behind : (queue : List ForwardedMessage) → nat_lt 0 (length (queue ++ message ∷ [])) ≡ true
    some_behind [] = refl
    some_behind (first ∷ queue) = some _

pub IsLine-taken_forwarded : (cores : List CoreChannels) (mail : Mail) (core : ℕ) (old new : CoreChannels) (marks : ℕ) →
    core < length cores → old ≡ get_or cores core old → new ≡ record old { forwarded = drop 1 old.forwarded } →
    marks ≡ (if has_forwarded new then mail.forwarded else without mail.forwarded core) → IsLine cores mail →
    IsLine (set cores core new) (record mail { forwarded = marks })
IsLine-taken_forwarded cores mail core old new marks there read is marks_is line =
    let waited : has_forwarded new ≡ true → has_forwarded old ≡ true =
    λ waits. some_before old.forwarded (sym (ap has_forwarded is) ∙ waits) in
    IsLine-forwarded cores mail core old new (drop 1 old.forwarded) marks there read is
    (rw marks_is (Marks-unless has_forwarded mail.forwarded cores core old new there read waited line.marked.forwarded))
    line
  where
    some_before : (queue : List ForwardedMessage) → nat_lt 0 (length (drop 1 queue)) ≡ true →
        nat_lt 0 (length queue) ≡ true
    some_before [] e = e
    some_before (first ∷ queue) e = some _

pub IsLine-sent_data : (cores : List CoreChannels) (mail : Mail) (core : ℕ) (old new : CoreChannels)
    (message : DataMessage) (marks : ℕ) →
    core < length cores → old ≡ get_or cores core old → new ≡ record old { «data» = Some message } →
    marks ≡ with mail.data_messages core → IsLine cores mail →
    IsLine (set cores core new) (record mail { data_messages = marks })
IsLine-sent_data cores mail core old new message marks there read is marks_is line =
    let few : core < 64 = below_64 cores core there line.within in
    IsLine-data cores mail core old new (Some message) marks there read is
    (rw marks_is (Marks-with has_data mail.data_messages cores core new few there
    (ap has_data is) line.marked.data_messages))
    line

pub IsLine-taken_data : (cores : List CoreChannels) (mail : Mail) (core : ℕ) (old new : CoreChannels) (marks : ℕ) →
    core < length cores → old ≡ get_or cores core old → new ≡ record old { «data» = None } →
    marks ≡ without mail.data_messages core → IsLine cores mail →
    IsLine (set cores core new) (record mail { data_messages = marks })
IsLine-taken_data cores mail core old new marks there read is marks_is line =
    IsLine-data cores mail core old new None marks there read is
    (rw marks_is (Marks-without has_data mail.data_messages cores core new there
    (ap has_data is) line.marked.data_messages))
    line

pub IsLine-sent_ack : (cores : List CoreChannels) (mail : Mail) (to from : ℕ) (old new : CoreChannels) (marks : ℕ) →
    to < length cores → from < length cores → old ≡ get_or cores to old →
    new ≡ record old { acks = with old.acks from } →
    marks ≡ with mail.acks to → IsLine cores mail →
    IsLine (set cores to new) (record mail { acks = marks })
IsLine-sent_ack cores mail to from old new marks there from_there read is marks_is line =
    let few : to < 64 = below_64 cores to there line.within in
    let from_few : from < 64 = below_64 cores from from_there line.within in
    let waits : has_acks new ≡ true =
    ap has_acks is ∙ some-from_has (with old.acks from) from (has-with_same old.acks from from_few) in
    IsLine-acks cores mail to old new (with old.acks from) marks there read is
    (IsWithinCores-with_ack cores to from old new there read (ap (λ k. k.acks) is) line.within from_there)
    (rw marks_is (Marks-with has_acks mail.acks cores to new few there waits line.marked.acks)) line

pub IsLine-taken_ack : (cores : List CoreChannels) (mail : Mail) (to from : ℕ) (old new : CoreChannels) (marks : ℕ) →
    to < length cores → old ≡ get_or cores to old → new ≡ record old { acks = without old.acks from } →
    marks ≡ (if has_acks new then mail.acks else without mail.acks to) → IsLine cores mail →
    IsLine (set cores to new) (record mail { acks = marks })
IsLine-taken_ack cores mail to from old new marks there read is marks_is line =
    let waited : has_acks new ≡ true → has_acks old ≡ true =
    λ waits. some_before old.acks (sym (ap has_acks is) ∙ waits) in
    IsLine-acks cores mail to old new (without old.acks from) marks there read is
    (IsWithinCores-without_ack cores to from old new there read (ap (λ k. k.acks) is) line.within)
    (rw marks_is (Marks-unless has_acks mail.acks cores to old new there read waited line.marked.acks)) line
  where
    some_before : (acks : ℕ) → nat_lt 0 (without acks from) ≡ true → nat_lt 0 acks ≡ true
    some_before zero e = sym (ap (nat_lt 0) (without-missing 0 from (has-zero from))) ∙ e
    some_before (suc acks) e = some _

-- in a line where nothing waits no core is marked
pub IsLine-empty : (cores : ℕ) → cores ≤ 64 → IsLine (replicate cores no_messages) no_marks
IsLine-empty cores few = record {
  within = IsWithinCores-empty cores few;
  marked = record {
    requests = λ core. rw read-replicate (has-zero core);
    forwarded = λ core. rw read-replicate (has-zero core);
    data_messages = λ core. rw read-replicate (has-zero core);
    acks = λ core. rw read-replicate (has-zero core);
  };
}

-- the cores of two sets
has-or : (marks other core : ℕ) → has (bit_or marks other) core ≡ (has marks core || has other core)
unfolding has
has-or marks other core =
    rw (bit_at_or marks other core)
    (by_bits (bit_at marks core) (bit_at other core) (bit_at-lt marks core) (bit_at-lt other core))
  where
    by_bits : (a b : ℕ) → a < 2 → b < 2 → (max a b == 1) ≡ ((a == 1) || (b == 1))
    by_bits zero zero small small_too = refl
    by_bits zero (suc zero) small small_too = refl
    by_bits (suc zero) zero small small_too = refl
    by_bits (suc zero) (suc zero) small small_too = refl
    by_bits (suc (suc a)) b small small_too = absurd (omega arith)
    by_bits a (suc (suc b)) small small_too = absurd (omega arith)

-- the cores that are marked for any kind are those that have a message
pub Marks-all : (cores : List CoreChannels) (mail : Mail) → IsMarked cores mail →
    Marks has_messages (all_marked mail) cores
Marks-all cores mail marked core =
    has-or (bit_or (bit_or mail.requests mail.forwarded) mail.data_messages) mail.acks core
    ∙ joined
    _
    _
    (has-or (bit_or mail.requests mail.forwarded) mail.data_messages core
    ∙ joined
    _ _ (has-or mail.requests mail.forwarded core ∙ joined _ _ (marked.requests core) (marked.forwarded core))
    (marked.data_messages core))
    (marked.acks core)
  where
    joined : {a c : Bool} (b d : Bool) → a ≡ c → b ≡ d → (a || b) ≡ (c || d)
    joined b d e f = cc

-- of two tests that fail together each fails
pub or_false : (a b : Bool) → (a || b) ≡ false → (a ≡ false) × (b ≡ false)
or_false false b e = (refl, e)
or_false true b e = cc

-- a core without messages has empty channels
same_as_none : (core : CoreChannels) → has_messages core ≡ false → core ≡ no_messages
same_as_none core quiet =
    let all = or_false _ _ quiet in
    let three = or_false _ _ all.0 in
    let two = or_false _ _ three.0 in
    ap (λ (r : Option RequestMessage). let x : CoreChannels = record core { request = r } in
    x) (no_request core.request two.0)
    ∙ ap (λ (q : List ForwardedMessage). let x : CoreChannels = record core { request = None; forwarded = q } in
    x) (no_forwarded core.forwarded two.1)
    ∙ ap (λ (m : Option DataMessage). let x : CoreChannels =
    record core { request = None; forwarded = []; «data» = m } in x) (no_data core.data three.1)
    ∙ ap (λ (a : ℕ). let x : CoreChannels = record { request = None; forwarded = []; «data» = None; acks = a } in
    x) (no_acks core.acks all.1)
  where
    no_request : (request : Option RequestMessage) → is_some request ≡ false → request ≡ None
    no_request None e = refl
    no_request (Some message) e = cc

    no_forwarded : (queue : List ForwardedMessage) → nat_lt 0 (length queue) ≡ false → queue ≡ []
    no_forwarded [] e = refl
    no_forwarded (message ∷ queue) e = let waits : nat_lt 0 (length (message ∷ queue)) ≡ true = some _ in cc

    no_data : (message : Option DataMessage) → is_some message ≡ false → message ≡ None
    no_data None e = refl
    no_data (Some message) e = cc

    no_acks : (acks : ℕ) → nat_lt 0 acks ≡ false → acks ≡ 0
    no_acks zero e = refl
    no_acks (suc acks) e = let waits : nat_lt 0 (suc acks) ≡ true = some _ in cc

-- no element of a list passes a test
none_pass : (test : CoreChannels → Bool) (cores : List CoreChannels) → test no_messages ≡ false →
    list_any test cores ≡ false → (core : ℕ) → test (get_or cores core no_messages) ≡ false
none_pass test [] none quiet core = none
none_pass test (first ∷ cores) none quiet zero = (or_false _ _ quiet).0
none_pass test (first ∷ cores) none quiet (suc core) = none_pass test cores none (or_false _ _ quiet).1 core

none-from_each : (test : CoreChannels → Bool) (cores : List CoreChannels) →
    ((core : ℕ) → test (get_or cores core no_messages) ≡ false) → list_any test cores ≡ false
none-from_each test [] each = refl
none-from_each test (first ∷ cores) each =
    rw (each 0, none-from_each test cores (λ core. each (suc core))) refl

-- a line is empty exactly where it has no mail
pub IsEmptyLine-from_no_mail : (line : LineChannels) → has_mail line ≡ false → IsEmptyLine line
IsEmptyLine-from_no_mail line quiet =
    let none = or_false _ _ quiet in
    IsEmptyLine-from_cores line
    (λ core. same_as_none (core_at line core) (none_pass has_messages line.cores refl none.1 core))
    (no_block line.home none.0)
  where
    no_block : (block : Option Block) → is_some block ≡ false → block ≡ None
    no_block None e = refl
    no_block (Some block) e = cc

pub no_mail-from_IsEmptyLine : (line : LineChannels) → IsEmptyLine line → has_mail line ≡ false
no_mail-from_IsEmptyLine line empty =
    rw
    (None-from_home line.home (empty channels.Home))
    (none-from_each has_messages line.cores (λ core. ap has_messages (cores-from_IsEmptyLine line empty core)))

-- some core is marked exactly where some core has a message
pub any-marked : (cores : List CoreChannels) (mail : Mail) → IsMarked cores mail →
    nat_lt 0 (all_marked mail) ≡ list_any has_messages cores
any-marked cores mail marked = by_marks (all_marked mail) refl (list_any has_messages cores) refl
  where
    by_marks : (marks : ℕ) → all_marked mail ≡ marks → (some_core : Bool) → list_any has_messages cores ≡ some_core →
        nat_lt 0 marks ≡ some_core
    by_marks marks is false none =
        let zero_marks : all_marked mail ≡ 0 =
        zero-from_none _ (λ core. Marks-all cores mail marked core ∙ none_pass has_messages cores refl none core) in
        ap (nat_lt 0) (sym is ∙ zero_marks)
    by_marks zero is true there =
        let none : list_any has_messages cores ≡ false =
        none-from_each has_messages cores
        (λ core. sym (Marks-all cores mail marked core) ∙ ap (λ marks. has marks core) is ∙ has-zero core) in
        let clash : false ≡ true = sym none ∙ there in cc
    by_marks (suc marks) is true there = some marks

-- so the marks and the block on its way home say whether the line has a message
pub shows_mail-is : (line : LineChannels) (head : LineHead) → IsMarked line.cores head.mail →
    head.home ≡ line.home → shows_mail head ≡ has_mail line
shows_mail-is line head marked home =
    ap (λ some_core. some_core || is_some head.home) (any-marked line.cores head.mail marked)
    ∙ or_comm (list_any has_messages line.cores) (is_some head.home)
    ∙ ap (λ (block : Option Block). is_some block || list_any has_messages line.cores) home

-- a line with no mail is an empty line
pub IsEmptyLine-from_quiet : (line : LineChannels) (quiet : Bool) → quiet ≡ not (has_mail line) →
    IsTrue quiet ↔ IsEmptyLine line
IsEmptyLine-from_quiet line quiet is = by_mail (has_mail line) refl quiet is
  where
    by_mail : (mail : Bool) → has_mail line ≡ mail → (quiet : Bool) → quiet ≡ not mail → IsTrue quiet ↔ IsEmptyLine line
    by_mail false none true is = ((λ t. IsEmptyLine-from_no_mail line none), (λ empty. refl))
    by_mail false none false is = cc
    by_mail true some false is = (
      (λ t. absurd (search rules)),
      (λ empty. let clash : false ≡ true = sym (no_mail-from_IsEmptyLine line empty)
          ∙ some in cc),
    )
    by_mail true some true is = cc
