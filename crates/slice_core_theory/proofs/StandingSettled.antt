-- Targets that are performed: they leave the front of their line, and become the last entries of the log.
use Rattle.std.proofs.Common.{◌≡◌, ℕ, ◌+◌, ◌/◌, ◌*◌, ◌<◌, ◌≤◌, inl, inr, Bool, true, false, List, [], ◌∷◌, ◌++◌, length}
use Rattle.std.proofs.Common.{Some, refl, sym, ap, subst, ◌∙◌, ⊎_elim, arith, eq-eqb, append_assoc}
use Rattle.std.specs.Prelude.{◌==◌, ◌&&◌, count_by, slice_set, slice_get, All}
use Rattle.std.proofs.lemmas.Bool.{cases_eq, cases_lt, eqb-true}
use Rattle.std.proofs.lemmas.List.{get_or-set_other, get_or-set_same, get_or_append_left, length-append, length-set}
use Rattle.std.proofs.lemmas.List.{length_push}
use Rattle.std.proofs.lemmas.List.Elements.{All-append, All-cons, All-head, All-nil, All-tail, All-weaker}
use Rattle.address_map.specs.Locator.{Lines, line_at}
use Rattle.address_map.specs.declared.address.CoreId.{CoreId}
use Rattle.address_map.specs.declared.address.Local.{Local}
use Rattle.address_map.specs.declared.block.Block.{Block}
use Rattle.mshr_file.proofs.Changes.{count_of-taken_none}
use Rattle.mshr_file.specs.Miss.{count_of, has_tag, targets_of, IsMissFile, TakesTargets}
use Rattle.mshr_file.specs.declared.registers.Register.{Register}
use Rattle.slice_core_cache.specs.Copy.{performed_on}
use Rattle.slice_core_cache.specs.Perform.{entries_of, entry_of, tags_after}
use Rattle.slice_core_cache.specs.Tags.{tag_in}
use Rattle.slice_core_cache.specs.Targets.{IsPerformable}
use Rattle.slice_core_cache.specs.declared.tags.TagState.{TagState}
use Rattle.slice_core_cache.specs.declared.tags.TagState.TheVariants as tag_states
use Rattle.slice_core_theory.proofs.StandingFacts.{all-performable}
use Rattle.slice_core_theory.proofs.Grown.{CanWait-grown, one_place}
use Rattle.slice_core_theory.proofs.Lists.{ascending-apart, at_most_one, count_by-all, count_by-append, count_by-cons}
use Rattle.slice_core_theory.proofs.Lists.{none, one, one_if, slice_get-kept, slice_get-next, All-right}
use Rattle.slice_core_theory.specs.Standing.{is_of, is_open, is_request, has_seq, target_count, CanWait, HasTags}
use Rattle.slice_core_theory.specs.Standing.{IsAccount, IsAhead, StandsInOrder, StandsOnce}
use Rattle.slice_log.specs.declared.entry.Entry.{Entry}
use Rattle.target_list.specs.declared.target.Target.{Target}

-- ---- the entries of targets

-- What holds of the entry of each target, on whatever block, holds of all entries.
pub entries-all : (P : Entry → Type 0) (Q : Target → Type 0) (core : CoreId) (first : ℕ)
    → ((block : Block) (target : Target) → Q target → P (entry_of core first block target))
    → (block : Block) (taken : List Target) → All Q taken → All P (entries_of core first block taken)
unfolding entries_of
entries-all P Q core first each block [] all = All-nil P
entries-all P Q core first each block (target ∷ taken) all =
    All-cons P (entry_of core first block target)
    (entries_of core first (performed_on block target.offset.0 target.op) taken)
    (each block target (All-head Q target taken all))
    (entries-all P Q core first each (performed_on block target.offset.0 target.op) taken (All-tail Q target taken all))

-- They have the targets' numbers, one each.
entries-request : (core : CoreId) (first seq : ℕ) (block : Block) (taken : List Target)
    → count_by (is_request core.0 seq) (entries_of core first block taken) ≡ count_by (has_seq seq) taken
unfolding entries_of
entries-request core first seq block [] = refl
entries-request core first seq block (target ∷ taken) =
    let after = performed_on block target.offset.0 target.op in
    let entries = count_by-cons (is_request core.0 seq) (entry_of core first block target)
    (entries_of core first after taken) in
    let targets = count_by-cons (has_seq seq) target taken in
    let later = entries-request core first seq after taken in
    let mine = ap (λ b. one_if (b && (target.seq == seq))) (eq-eqb core.0 core.0 refl) in
    omega (arith, entries, targets, later, mine)

entries-own : (core : CoreId) (first : ℕ) (block : Block) (taken : List Target)
    → count_by (is_of core.0) (entries_of core first block taken) ≡ length taken
unfolding entries_of
entries-own core first block [] = refl
entries-own core first block (target ∷ taken) =
    let after = performed_on block target.offset.0 target.op in
    let entries = count_by-cons (is_of core.0) (entry_of core first block target) (entries_of core first after taken) in
    let later = entries-own core first after taken in
    let mine = one (core.0 == core.0) (eq-eqb core.0 core.0 refl) in
    omega (arith, entries, later, mine)

-- ---- tags

tags-length : (states : List TagState) (number : ℕ) (taken : List Target)
    → length (tags_after states number taken) ≡ length states
unfolding tags_after
tags-length states number [] = refl
tags-length states number (target ∷ taken) =
    tags-length (slice_set states target.tag (tag_states.Performed number)) (number + 1) taken
    ∙ length-set states target.tag (tag_states.Performed number)

-- A tag that no target has names what it did.
tag-kept : (states : List TagState) (number tag : ℕ) (taken : List Target) → count_by (has_tag tag) taken ≡ 0
    → tag_in (tags_after states number taken) tag ≡ tag_in states tag
unfolding tags_after
tag-kept states number tag [] none = refl
tag-kept states number tag (target ∷ taken) none =
    let all = count_by-cons (has_tag tag) target taken in
    ⊎_elim
    (λ same.
    let mine = one (has_tag tag target) (eq-eqb target.tag tag (sym same)) in
    absurd (omega (arith, all, mine, none)))
    (λ apart.
    tag-kept (slice_set states target.tag (tag_states.Performed number)) (number + 1) tag taken
    (omega (arith, all, none))
    ∙ get_or-set_other states target.tag tag (tag_states.Performed number) tag_states.Free apart)
    (cases_eq tag target.tag)

-- The tag names an entry of the log that its core asked for by it.
abbrev NamesEntry : List Entry → CoreId → List TagState → ℕ → Type 0
NamesEntry log core states tag =
    (number : ℕ) × (e : Entry) × (tag_in states tag ≡ tag_states.Performed number) × (slice_get log number ≡ Some e) ×
    (e.core.0 ≡ core.0)
    × (e.tag ≡ tag)

-- The tag of the first target names its entry where no later one has the tag.
tag-first : (log more : List Entry) (core : CoreId) (first : ℕ) (block : Block) (states : List TagState) (tag : ℕ)
    (target : Target)
    (taken : List Target) → length states ≡ 64 → target.tag < 64 → target.tag ≡ tag → count_by (has_tag tag) taken ≡ 0
    → NamesEntry (log ++ entry_of core first block target ∷ more) core
    (tags_after (slice_set states target.tag (tag_states.Performed (length log))) (length log + 1) taken) tag
tag-first log more core first block states tag target taken sized small same none =
    let now = slice_set states target.tag (tag_states.Performed (length log)) in
    let set_here = get_or-set_same states target.tag (tag_states.Performed (length log)) tag_states.Free
    (omega (arith, small, sized)) in (
      length log,
      entry_of core first block target,
      tag-kept now (length log + 1) tag taken none ∙ ap (tag_in now) (sym same) ∙ set_here,
      slice_get-next log more (entry_of core first block target),
      refl,
      same,
    )

-- The tag of a target names its entry.
tag-performed : (log : List Entry) (core : CoreId) (first : ℕ) (block : Block) (states : List TagState) (tag : ℕ)
    (taken : List Target)
    → length states ≡ 64 → All IsPerformable taken → 1 ≤ count_by (has_tag tag) taken
    → NamesEntry (log ++ entries_of core first block taken) core (tags_after states (length log) taken) tag
unfolding entries_of tags_after
tag-performed log core first block states tag [] sized can has = absurd (omega (arith, has))
tag-performed log core first block states tag (target ∷ taken) sized can has =
    let entry = entry_of core first block target in
    let after = performed_on block target.offset.0 target.op in
    let now = slice_set states target.tag (tag_states.Performed (length log)) in
    elim (cases_lt 0 (count_by (has_tag tag) taken)) [
      | inl more ↦
          let size = length-set states target.tag (tag_states.Performed (length log)) ∙ sized in
          let found =
          tag-performed (log ++ entry ∷ []) core first after now tag taken size
          (All-tail IsPerformable target taken can) more in
          rw (append_assoc, length_push log entry) at found
      | inr last ↦
          let all = count_by-cons (has_tag tag) target taken in
          let same = eqb-true target.tag tag (passes (has_tag tag target) (omega (arith, all, last, has))) in
          tag-first log (entries_of core first after taken) core first block states tag target taken sized
          (All-head IsPerformable target taken can).tag same (omega (arith, last))
    ]
  where
    passes : (b : Bool) → 1 ≤ one_if b → b ≡ true
    passes true counted = refl
    passes false counted = absurd (omega (arith, counted))

-- ---- the account

-- What holds of all that wait for a line holds of those that are taken from its front.
pub some-taken : (old : List Register) (line : ℕ) (taken left : List Target) → targets_of old line ≡ taken ++ left
    → (P : Target → Type 0) → All P (targets_of old line) → All P taken
some-taken old line taken left is P all k d inside =
    let long = length-append taken left in
    let here = get_or_append_left taken left d k inside in
    rw (is, here) at (all k d (rw is (omega (arith, inside, long))))

-- Fewer wait.
pub waiting-taken : (old new : List Register) (line : ℕ) (taken : List Target) → TakesTargets old new line taken
    → target_count old ≡ target_count new + length taken
waiting-taken old new line taken takes =
    let fewer = takes.counts (λ target. true) in
    let all = count_by-all taken in
    omega (arith, fewer, all)

module _ (log : List Entry) (core : CoreId) (first : ℕ) (block : Block) (old new : List Register) (line : ℕ)
    (taken : List Target)
    (takes : TakesTargets old new line taken) where
  -- Each is its entry now.
  once-settled : (accepted : ℕ) → StandsOnce log core.0 old accepted
      → StandsOnce (log ++ entries_of core first block taken) core.0 new accepted
  once-settled accepted stands = record {
    once = λ seq.
        let fewer = takes.counts (has_seq seq) in
        let more = count_by-append (is_request core.0 seq) log (entries_of core first block taken) in
        let moved = entries-request core first seq block taken in
        let before = stands.once seq in
        omega (arith, fewer, more, moved, before);
    counted =
        let fewer = waiting-taken old new line taken takes in
        let more = count_by-append (is_of core.0) log (entries_of core first block taken) in
        let moved = entries-own core first block taken in
        let before = stands.counted in
        omega (arith, fewer, more, moved, before);
  }

  waits-settled : IsMissFile new → CanWait log old → CanWait (log ++ entries_of core first block taken) new
  waits-settled file waits = CanWait-grown log (entries_of core first block taken) new (record {
    file = file;
    performable = count_of-taken_none _ old new line taken takes waits.performable;
    asked = count_of-taken_none _ old new line taken takes waits.asked;
  })

  tags-settled : (states : List TagState) → CanWait log old → HasTags log core.0 old states
      → HasTags (log ++ entries_of core first block taken) core.0 new (tags_after states (length log) taken)
  tags-settled states waits named = record {
    sized = tags-length states (length log) taken ∙ named.sized;
    opened = λ tag. elim (cases_lt 0 (count_by (has_tag tag) taken))
        [ inl some ↦ shut tag some | inr none ↦ still tag (omega (arith, none)) ];
    replies = λ tag number is. elim (cases_lt 0 (count_by (has_tag tag) taken)) [
      | inl some ↦ answered tag number is (found tag some)
      | inr none ↦
          let was = sym (tag-kept states (length log) tag taken (omega (arith, none))) ∙ is in
          let before = named.replies tag number was in (
            before.0,
            slice_get-kept log
                (entries_of core first block taken) number before.0 before.1,
            before.2,
            before.3,
          )
    ];
  }
    where
      can : All IsPerformable taken
      can = some-taken old line taken (targets_of new line) takes.here IsPerformable
          (all-performable log old line waits)

      found : (tag : ℕ) → 1 ≤ count_by (has_tag tag) taken
          → NamesEntry (log ++ entries_of core first block taken) core (tags_after states (length log) taken) tag
      found tag some = tag-performed log core first block states tag taken named.sized can some

      shut : (tag : ℕ) → 1 ≤ count_by (has_tag tag) taken
          → count_of (has_tag tag) new ≡ one_if (is_open (tag_in (tags_after states (length log) taken) tag))
      shut tag some =
          let fewer = takes.counts (has_tag tag) in
          let before = named.opened tag in
          let few = at_most_one (is_open (tag_in states tag)) in
          let now = ap (λ state. one_if (is_open state)) (found tag some).2 in
          omega (arith, fewer, before, few, now, some)

      still : (tag : ℕ) → count_by (has_tag tag) taken ≡ 0
          → count_of (has_tag tag) new ≡ one_if (is_open (tag_in (tags_after states (length log) taken) tag))
      still tag none =
          let fewer = takes.counts (has_tag tag) in
          let before = named.opened tag in
          let now = ap (λ state. one_if (is_open state)) (tag-kept states (length log) tag taken none) in
          omega (arith, fewer, before, now, none)

      number_of : (m n : ℕ) → tag_states.Performed m ≡ tag_states.Performed n → m ≡ n
      number_of m n same = cc

      answered : (tag number : ℕ) → tag_in (tags_after states (length log) taken) tag ≡ tag_states.Performed number
          → NamesEntry (log ++ entries_of core first block taken) core (tags_after states (length log) taken) tag
          → (e : Entry) × (slice_get (log ++ entries_of core first block taken) number ≡ Some e) × (e.core.0 ≡ core.0)
          × (e.tag ≡ tag)
      answered tag number is named =
          let same = number_of named.0 number (sym named.2 ∙ is) in
          (named.1, ap (slice_get (log ++ entries_of core first block taken)) (sym same) ∙ named.3, named.4, named.5)

-- On its line what was taken was asked for before what is left.
order-settled : (lines : Lines) (log : List Entry) (core : CoreId) (first : ℕ) (block : Block)
    (old new : List Register) (local : Local)
    (taken : List Target) → TakesTargets old new local.0 taken → lines.slice < lines.slices
    → first ≡ 8 * (line_at lines local).0
    → CanWait log old → StandsInOrder lines log core.0 old
    → StandsInOrder lines (log ++ entries_of core first block taken) core.0 new
order-settled lines log core first block old new local taken takes few begins waits order = record {
  targets = takes.ordered order.targets;
  entries =
      All-append (IsAhead lines core.0 new) log (entries_of core first block taken)
      (All-weaker (IsAhead lines core.0 old) (IsAhead lines core.0 new) still log order.entries)
      (entries-all (IsAhead lines core.0 new) IsTaken core first ahead block taken both);
}
  where
    IsTaken : Target → Type 0
    IsTaken target = IsPerformable target × All (λ (later : Target). target.seq < later.seq) (targets_of new local.0)

    still : (entry : Entry) → IsAhead lines core.0 old entry → IsAhead lines core.0 new entry
    still entry before other own on =
        elim (cases_eq other.0 local.0) [
          | inl here ↦
              let was = rw (here, takes.here) at (before other own on) in
              rw here (All-right (λ (t : Target). entry.seq < t.seq) taken (targets_of new local.0) was)
          | inr apart ↦ rw (takes.others other.0 apart) (before other own on)
        ]

    ahead : (block : Block) (target : Target) → IsTaken target
        → IsAhead lines core.0 new (entry_of core first block target)
    ahead block target is other own on =
        let word = is.0.word in
        let line : (first + target.offset.0) / 8 ≡ (line_at lines local).0 = omega (arith, word, begins) in
        let same = one_place lines local other few (sym line ∙ on) in
        subst (λ n. All (λ (later : Target). target.seq < later.seq) (targets_of new n)) same is.1

    both : All IsTaken taken
    both k d inside = (
      some-taken old local.0 taken (targets_of new local.0) takes.here IsPerformable
          (all-performable log old local.0 waits) k d inside,
      ascending-apart (λ (t : Target). t.seq) taken (targets_of new local.0)
          (rw takes.here at (order.targets local.0)) k d inside,
    )

-- Targets of a line are performed: the account is that of the entries.
pub account-settled : (lines : Lines) (log : List Entry) (core : CoreId) (first : ℕ) (block : Block)
    (old new : List Register)
    (states : List TagState) (accepted : ℕ) (local : Local) (taken : List Target) → TakesTargets old new local.0 taken
    → IsMissFile new
    → lines.slice < lines.slices → first ≡ 8 * (line_at lines local).0 → IsAccount lines log core.0 old states accepted
    → IsAccount lines (log ++ entries_of core first block taken) core.0 new
    (tags_after states (length log) taken) accepted
account-settled lines log core first block old new states accepted local taken takes file few begins account = record {
  standing = once-settled log core first block old new local.0 taken takes accepted account.standing;
  waits = waits-settled log core first block old new local.0 taken takes file account.waits;
  tags = tags-settled log core first block old new local.0 taken takes states account.waits account.tags;
  order = order-settled lines log core first block old new local taken takes few begins account.waits account.order;
}
