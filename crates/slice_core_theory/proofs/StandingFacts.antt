-- What follows from an account: what waits and what was performed is numbered below what comes next, and what waits may
-- be performed.
use Rattle.std.proofs.Common.{◌≡◌, ℕ, ◌<◌, ◌≤◌, true, List, length, get_or, refl, sym, ap, ◌∙◌, arith, eq-eqb}
use Rattle.std.specs.Prelude.{All, IsTrue, nat_lt}
use Rattle.std.proofs.lemmas.Bool.{and_from, and_parts, ltb-true, leb-true}
use Rattle.std.proofs.lemmas.List.Elements.{All-weaker}
use Rattle.std.proofs.lemmas.Option.{same_Some}
use Rattle.mshr_file.proofs.Changes.{all_pass, count_of-line}
use Rattle.mshr_file.specs.Miss.{count_of, has_tag, targets_of, HasEachTagOnce}
use Rattle.mshr_file.specs.declared.registers.Register.{Register}
use Rattle.slice_core_cache.specs.Tags.{tag_in}
use Rattle.slice_core_cache.specs.Targets.{IsPerformable}
use Rattle.slice_core_cache.specs.declared.tags.TagState.{TagState}
use Rattle.slice_core_cache.specs.declared.tags.TagState.TheVariants as tag_states
use Rattle.slice_core_theory.proofs.Lists.{at_most_one, none, is_below, count_by-all, counted_at}
use Rattle.slice_core_theory.specs.Standing.{is_request, has_seq, target_count, is_performable, is_asked_by, is_open}
use Rattle.slice_core_theory.specs.Standing.{StandsOnce, CanWait, HasTags}
use Rattle.slice_log.specs.declared.entry.Entry.{Entry}
use Rattle.target_list.specs.declared.target.Target.{Target}

-- An entry of the core is numbered below what it asks for next.
pub entries-below : (log : List Entry) (core : ℕ) (misses : List Register) (accepted : ℕ)
    → StandsOnce log core misses accepted
    → All (λ entry. entry.core.0 ≡ core → entry.seq < accepted) log
entries-below log core misses accepted stands k d inside own =
    let entry = get_or log k d in
    let passes : is_request core entry.seq entry ≡ true = and_from _ _ (eq-eqb entry.core.0 core own)
    (eq-eqb entry.seq entry.seq refl) in
    let here = counted_at (is_request core entry.seq) log k d inside passes in
    let all = stands.once entry.seq in
    is_below entry.seq accepted (omega (arith, here, all))

-- So is what waits for a line.
pub targets-below : (log : List Entry) (core : ℕ) (misses : List Register) (accepted line : ℕ)
    → StandsOnce log core misses accepted
    → All (λ target. target.seq < accepted) (targets_of misses line)
targets-below log core misses accepted line stands k d inside =
    let seq = (get_or (targets_of misses line) k d).seq in
    let here = counted_at (has_seq seq) (targets_of misses line) k d inside (eq-eqb seq seq refl) in
    let among = count_of-line (has_seq seq) misses line in
    let all = stands.once seq in
    is_below seq accepted (omega (arith, here, among, all))

-- What waits for a line can be performed.
pub all-performable : (log : List Entry) (misses : List Register) (line : ℕ) → CanWait log misses
    → All IsPerformable (targets_of misses line)
all-performable log misses line waits =
    All-weaker (λ target. IsTrue (is_performable target)) IsPerformable can (targets_of misses line)
    (all_pass is_performable misses line waits.performable)
  where
    can : (target : Target) → IsTrue (is_performable target) → IsPerformable target
    can target passes =
        let parts = and_parts (nat_lt target.offset.0 8) (nat_lt target.tag 64) passes in
        record { word = ltb-true target.offset.0 8 parts.0; tag = ltb-true target.tag 64 parts.1 }

-- What waits for a line was asked for in the past.
pub all-asked : (log : List Entry) (misses : List Register) (line : ℕ) → CanWait log misses
    → All (λ target. target.since ≤ length log) (targets_of misses line)
all-asked log misses line waits =
    All-weaker (λ target. IsTrue (is_asked_by (length log) target)) (λ target. target.since ≤ length log)
    (λ target passes. leb-true target.since (length log) passes) (targets_of misses line)
    (all_pass (is_asked_by (length log)) misses line waits.asked)

-- No two targets have one tag, and none has a free one.
pub each-tag_once : (log : List Entry) (core : ℕ) (misses : List Register) (states : List TagState)
    → HasTags log core misses states
    → HasEachTagOnce misses
each-tag_once log core misses states named tag =
    let all = named.opened tag in
    let few = at_most_one (is_open (tag_in states tag)) in
    omega (arith, all, few)

pub tag-names_none : (log : List Entry) (core : ℕ) (misses : List Register) (states : List TagState) (tag : ℕ)
    → HasTags log core misses states → tag_in states tag ≡ tag_states.Free → count_of (has_tag tag) misses ≡ 0
tag-names_none log core misses states tag named free =
    named.opened tag ∙ none (is_open (tag_in states tag)) (ap is_open free)

-- Two tags never name one entry.
pub replies-apart : (log : List Entry) (core : ℕ) (misses : List Register) (states : List TagState)
    (tag other number : ℕ)
    → HasTags log core misses states → tag_in states tag ≡ tag_states.Performed number
    → tag_in states other ≡ tag_states.Performed number → tag ≡ other
replies-apart log core misses states tag other number named first second =
    let a = named.replies tag number first in
    let b = named.replies other number second in
    let same : a.0 ≡ b.0 = same_Some a.0 b.0 (sym a.1 ∙ b.1) in
    sym a.3 ∙ ap (λ (e : Entry). e.tag) same ∙ b.3

-- No more wait for a line than wait in all.
pub waiting-line : (misses : List Register) (line : ℕ) → length (targets_of misses line) ≤ target_count misses
waiting-line misses line =
    let among = count_of-line (λ target. true) misses line in
    let all = count_by-all (targets_of misses line) in
    omega (arith, among, all)
