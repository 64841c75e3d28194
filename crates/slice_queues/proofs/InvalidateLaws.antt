-- One Inv after another to the cores of a set is one change of all these cores.
use Rattle.std.proofs.Common.{◌≡◌, ◌≢◌, ℕ, ◌+◌, ◌^◌, ◌<◌, ◌≤◌, zero, suc, Bool, true, false, if◌then◌else◌, List, []}
use Rattle.std.proofs.Common.{◌∷◌, length, filter, refl, ap, sym, ◌∙◌, arith, Option, inl, inr}
use Rattle.std.specs.List.{range_with_len, AllByRecursion}
use Rattle.std.proofs.Math.ListN.{set, length-set}
use Rattle.std.proofs.lemmas.Bool.{cases_eq, cases_lt}
use Rattle.std.proofs.lemmas.List.{get_or-set_same, get_or-set_other, ext_get_or, get_or_past}
use Rattle.std.proofs.lemmas.List.FromFn.{get_or-map-range_with_len, length-map-range_with_len}
use Rattle.address_map.specs.declared.address.CoreId.{CoreId}
use Rattle.address_map.specs.declared.block.Block.{Block}
use Rattle.address_map.specs.CoreSet.{has, members}
use Rattle.address_map.proofs.CoreSets.{has-below}
use Rattle.slice_queues.specs.declared.channel.Channel.TheVariants as channels
use Rattle.slice_queues.specs.declared.message.Message.TheVariants as messages
use Rattle.slice_queues.specs.declared.message.ForwardedMessage.TheVariants as forwarded_messages
use Rattle.slice_queues.specs.Line.{CoreChannels, LineChannels, no_messages, core_at, HasChannel, HasRoom, after_send}
use Rattle.slice_queues.specs.Line.{TakesInvalidations, with_invalidation, after_invalidating}

-- the core's forwarded channel is there and takes another message
abbrev pub TakesForwarded : LineChannels → ℕ → Type 0
TakesForwarded line core =
    HasChannel line (channels.Fwd (record { 0 = core })) × HasRoom line (channels.Fwd (record { 0 = core }))

-- the line once an Inv for the requester went to one core
abbrev pub after_one : CoreId → LineChannels → ℕ → LineChannels
after_one requester line core =
    after_send line (channels.Fwd (record { 0 = core })) (messages.Forwarded (forwarded_messages.Inv requester))

-- the line once it went to these cores, one after another
abbrev pub after_each : CoreId → List ℕ → LineChannels → LineChannels
after_each requester [] line = line
after_each requester (core ∷ cores) line = after_each requester cores (after_one requester line core)

-- each of them takes it in its turn
abbrev pub EachTakes : CoreId → List ℕ → LineChannels → Type 0
EachTakes requester [] line = Unit {0}
EachTakes requester (core ∷ cores) line =
    TakesForwarded line core × EachTakes requester cores (after_one requester line core)

-- a core that is after those that got it has what it had
core-unreached : (set : ℕ) (requester : CoreId) (n from : ℕ) (line : LineChannels) (core : ℕ) → core < from →
    core_at (after_each requester (filter (has set) (range_with_len from n)) line) core ≡ core_at line core
core-unreached set requester zero from line core before = refl
core-unreached set requester (suc n) from line core before =
    by_test (has set from) (λ other. core-unreached set requester n (from + 1) other core (omega arith))
    (get_or-set_other line.cores from core (with_invalidation requester (core_at line from)) no_messages (omega arith))
  where
    by_test : (there : Bool) →
        ((other : LineChannels) →
        core_at (after_each requester (filter (has set) (range_with_len (from + 1) n)) other) core
        ≡ core_at other core) →
        core_at (after_one requester line from) core ≡ core_at line core →
        core_at
        (after_each
        requester
        (if there then from ∷ filter (has set) (range_with_len (from + 1) n) else filter (has set)
        (range_with_len (from + 1) n))
        line)
        core
        ≡ core_at line core
    by_test true rest here = rest (after_one requester line from) ∙ here
    by_test false rest here = rest line

-- what a core has that was reached
abbrev reached : ℕ → CoreId → LineChannels → ℕ → CoreChannels
reached set requester line core =
    if has set core then with_invalidation requester (core_at line core) else core_at line core

core-reached : (set : ℕ) (requester : CoreId) (n from : ℕ) (line : LineChannels) (core : ℕ) → from ≤ core →
    core < from + n →
    core < length line.cores →
    core_at (after_each requester (filter (has set) (range_with_len from n)) line) core
    ≡ reached set requester line core
core-reached set requester zero from line core behind within there = absurd (omega arith)
core-reached set requester (suc n) from line core behind within there =
    elim (cases_eq from core) [
      | inl here ↦
          at_core here (has set from) refl (λ other. core-unreached set requester n (from + 1) other core (omega arith))
      | inr apart ↦
          past_core apart (has set from)
          (λ other still. core-reached set requester n (from + 1) other core (omega arith) (omega arith) still)
    ]
  where
    at_core : from ≡ core → (test : Bool) → has set from ≡ test →
        ((other : LineChannels) →
        core_at (after_each requester (filter (has set) (range_with_len (from + 1) n)) other) core
        ≡ core_at other core) →
        core_at
        (after_each
        requester
        (if test then from ∷ filter (has set) (range_with_len (from + 1) n) else filter (has set)
        (range_with_len (from + 1) n))
        line)
        core
        ≡ reached set requester line core
    at_core here true e rest =
        let test : has set core ≡ true = ap (has set) (sym here) ∙ e in
        rest (after_one requester line from)
        ∙ ap (λ c. core_at (after_one requester line c) core) here
        ∙ get_or-set_same line.cores core (with_invalidation requester (core_at line core)) no_messages there
        ∙ rw test refl
    at_core here false e rest =
        let test : has set core ≡ false = ap (has set) (sym here) ∙ e in
        rest line ∙ rw test refl

    past_core : from ≢ core → (test : Bool) →
        ((other : LineChannels) → core < length other.cores →
        core_at (after_each requester (filter (has set) (range_with_len (from + 1) n)) other) core
        ≡ reached set requester other core) →
        core_at
        (after_each
        requester
        (if test then from ∷ filter (has set) (range_with_len (from + 1) n) else filter (has set)
        (range_with_len (from + 1) n))
        line)
        core
        ≡ reached set requester line core
    past_core apart true rest =
        let same : core_at (after_one requester line from) core ≡ core_at line core =
        get_or-set_other line.cores from core (with_invalidation requester (core_at line from)) no_messages
        (λ e. apart (sym e)) in
        rest (after_one requester line from) (rw length-set there)
        ∙ ap (λ k. if has set core then with_invalidation requester k else k) same
    past_core apart false rest = rest line there

-- the line keeps its number of cores, and its home
length-after_each : (requester : CoreId) (cores : List ℕ) (line : LineChannels) →
    length (after_each requester cores line).cores ≡ length line.cores
length-after_each requester [] line = refl
length-after_each requester (core ∷ cores) line =
    length-after_each requester cores (after_one requester line core) ∙ simp length-set

home-after_each : (requester : CoreId) (cores : List ℕ) (line : LineChannels) →
    (after_each requester cores line).home ≡ line.home
home-after_each requester [] line = refl
home-after_each requester (core ∷ cores) line = home-after_each requester cores (after_one requester line core)

-- one after another, or all at once
pub after_each-members : (set : ℕ) (requester : CoreId) (line : LineChannels) → length line.cores ≤ 64 →
    after_each requester (members set) line ≡ after_invalidating line set requester
unfolding members
after_each-members set requester line few =
    same_line
    (after_each requester (filter (has set) (range_with_len 0 64)) line)
    (after_invalidating line set requester)
    (ext_get_or
    no_messages _ _ (same_length ∙ sym (length-map-range_with_len (reached set requester line) 0 (length line.cores)))
    (λ core within.
    let there : core < length line.cores = omega (arith, same_length) in
    core-reached set requester 64 0 line core (omega arith) (omega arith) there
    ∙ sym (get_or-map-range_with_len (reached set requester line) 0 (length line.cores) core core no_messages there
    (omega arith))))
    (home-after_each requester (filter (has set) (range_with_len 0 64)) line)
  where
    same_length : length (after_each requester (filter (has set) (range_with_len 0 64)) line).cores ≡ length line.cores
    same_length = length-after_each requester (filter (has set) (range_with_len 0 64)) line

    same_line : (a b : LineChannels) → a.cores ≡ b.cores → a.home ≡ b.home → a ≡ b
    same_line a b e f =
        let line : List CoreChannels → Option Block →
        LineChannels = λ cores home. record { cores = cores; home = home } in
        ap (λ cores. line cores a.home) e ∙ ap (line b.cores) f

-- what holds of the members of a set holds of each core
each-from_range : (P : ℕ → Type 0) (set n from : ℕ) → AllByRecursion P (filter (has set) (range_with_len from n)) →
    (core : ℕ) → from ≤ core → core < from + n → has set core ≡ true → P core
each-from_range P set zero from all core behind within there = absurd (omega arith)
each-from_range P set (suc n) from all core behind within there =
    by_test (has set from) refl all
    (λ rest apart. each-from_range P set n (from + 1) rest core (omega arith) (omega arith) there)
  where
    by_test : (test : Bool) → has set from ≡ test →
        AllByRecursion
        P
        (if test then from ∷ filter (has set) (range_with_len (from + 1) n) else filter (has set)
        (range_with_len (from + 1) n)) →
        (AllByRecursion P (filter (has set) (range_with_len (from + 1) n)) → from ≢ core → P core) → P core
    by_test true e all later =
        elim (cases_eq from core) [
          | inl here ↦ rw (← here) all.0
          | inr apart ↦ later all.1 apart
        ]
    by_test false e all later =
        elim (cases_eq from core) [
          | inl here ↦ let clash : false ≡ true = sym e ∙ ap (has set) here ∙ there in cc
          | inr apart ↦ later all apart
        ]

-- where all take it, each takes it in its turn: the others' channels stay as they are
EachTakes-range : (set : ℕ) (requester : CoreId) (n from : ℕ) (line : LineChannels) →
    ((core : ℕ) → from ≤ core → has set core ≡ true → TakesForwarded line core) →
    EachTakes requester (filter (has set) (range_with_len from n)) line
EachTakes-range set requester zero from line takes = tt
EachTakes-range set requester (suc n) from line takes =
    by_test (has set from) refl (λ other takes. EachTakes-range set requester n (from + 1) other takes)
  where
    by_test : (there : Bool) → has set from ≡ there →
        ((other : LineChannels) → ((core : ℕ) → from + 1 ≤ core → has set core ≡ true → TakesForwarded other core) →
        EachTakes requester (filter (has set) (range_with_len (from + 1) n)) other) →
        EachTakes
        requester
        (if there then from ∷ filter (has set) (range_with_len (from + 1) n) else filter (has set)
        (range_with_len (from + 1) n))
        line
    by_test true e rest = (takes from (omega arith) e, rest (after_one requester line from) still)
      where
        still : (core : ℕ) → from + 1 ≤ core → has set core ≡ true → TakesForwarded (after_one requester line from) core
        still core behind there =
            let before : TakesForwarded line core = takes core (omega arith) there in
            let apart : core ≢ from = omega arith in
            let same : core_at (after_one requester line from) core ≡ core_at line core =
            get_or-set_other line.cores from core (with_invalidation requester (core_at line from)) no_messages apart in
            (rw length-set before.0, rw same before.1)
    by_test false e rest = rest line (λ core behind there. takes core (omega arith) there)

pub EachTakes-members : (set : ℕ) (requester : CoreId) (line : LineChannels) →
    TakesInvalidations line set → EachTakes requester (members set) line
unfolding members
EachTakes-members set requester line takes =
    EachTakes-range set requester 64 0 line (λ core from there. takes (record { 0 = core }) there)

-- a core of the set got the Inv after what waited, and any other core has what it had
pub core_at-after_invalidating : (line : LineChannels) (set : ℕ) (requester : CoreId) (core : ℕ) →
    core < length line.cores →
    core_at (after_invalidating line set requester) core
    ≡ (if has set core then with_invalidation requester (core_at line core) else core_at line core)
core_at-after_invalidating line set requester core there =
    get_or-map-range_with_len (reached set requester line) 0 (length line.cores) core core no_messages there
    (omega arith)

pub core_at-not_invalidated : (line : LineChannels) (set : ℕ) (requester : CoreId) (core : ℕ) → has set core ≡ false →
    core_at (after_invalidating line set requester) core ≡ core_at line core
core_at-not_invalidated line set requester core apart =
    elim (cases_lt core (length line.cores)) [
      | inl there ↦ core_at-after_invalidating line set requester core there ∙ rw apart refl
      | inr past ↦
          get_or_past (after_invalidating line set requester).cores core no_messages
          (rw (length-map-range_with_len (reached set requester line) 0 (length line.cores)) past)
          ∙ sym (get_or_past line.cores core no_messages past)
    ]

-- a set whose members all take it is one of cores that take it
pub TakesInvalidations-from_members : (line : LineChannels) (set : ℕ) → set < 2 ^ 64 →
    AllByRecursion (TakesForwarded line) (members set) → TakesInvalidations line set
unfolding members
TakesInvalidations-from_members line set fits all core there =
    each-from_range (TakesForwarded line) set 64 0 all core.0 (omega arith)
    (omega (arith, has-below set core.0 fits there)) there
