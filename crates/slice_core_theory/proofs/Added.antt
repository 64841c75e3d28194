-- An access that is accepted and waits: the last target of its line, under the core's next number and an open tag.
use Rattle.std.proofs.Common.{◌≡◌, ◌≢◌, ℕ, ◌+◌, ◌<◌, Bool, true, not, List, [], length, refl, sym, ap, ◌∙◌, ⊎_elim}
use Rattle.std.proofs.Common.{arith, eq-eqb, get_or}
use Rattle.std.specs.Prelude.{◌==◌, slice_set}
use Rattle.std.proofs.lemmas.Bool.{and_from, cases_eq, le-leb, lt-ltb, ne_eqb}
use Rattle.std.proofs.lemmas.List.{get_or-set_other, get_or-set_same, length-set}
use Rattle.std.proofs.lemmas.List.Elements.{All-push, All-weaker}
use Rattle.address_map.specs.Locator.{Lines}
use Rattle.mshr_file.proofs.Changes.{count_of-added_none}
use Rattle.mshr_file.specs.Miss.{count_of, has_tag, targets_of, AddsTarget, IsMissFile}
use Rattle.mshr_file.specs.declared.registers.Register.{Register}
use Rattle.slice_core_cache.specs.Tags.{tag_in}
use Rattle.slice_core_cache.specs.declared.tags.TagState.{TagState}
use Rattle.slice_core_cache.specs.declared.tags.TagState.TheVariants as tag_states
use Rattle.slice_core_theory.proofs.StandingFacts.{entries-below, tag-names_none, targets-below}
use Rattle.slice_core_theory.proofs.Lists.{below_next, count_by-cons, one, one_if, none}
use Rattle.slice_core_theory.specs.Standing.{has_seq, is_asked_by, is_open, is_performable, target_count, CanWait}
use Rattle.slice_core_theory.specs.Standing.{HasTags}
use Rattle.slice_core_theory.specs.Standing.{IsAccount, StandsInOrder, StandsOnce}
use Rattle.slice_log.specs.declared.entry.Entry.{Entry}
use Rattle.target_list.specs.declared.target.Target.{Target}

-- what one target adds to a count
added : (test : Target → Bool) (old new : List Register) (line : ℕ) (target : Target) → AddsTarget old new line target
    → count_of test new ≡ count_of test old + one_if (test target)
added test old new line target adds =
    let more = adds.counts test in
    let first = count_by-cons test target [] in
    omega (arith, more, first)

-- One more waits.
pub waiting-added : (old new : List Register) (line : ℕ) (target : Target) → AddsTarget old new line target
    → target_count new ≡ target_count old + 1
waiting-added old new line target adds = added (λ t. true) old new line target adds

once-added : (log : List Entry) (core : ℕ) (old new : List Register) (accepted line : ℕ) (target : Target)
    → AddsTarget old new line target → target.seq ≡ accepted → StandsOnce log core old accepted
    → StandsOnce log core new (accepted + 1)
once-added log core old new accepted line target adds next stands = record {
  once = λ seq.
      let more = added (has_seq seq) old new line target adds in
      let mine = ap (λ n. one_if (n == seq)) next in
      let below = below_next seq accepted in
      let before = stands.once seq in
      omega (arith, more, mine, below, before);
  counted =
      let more = waiting-added old new line target adds in
      let before = stands.counted in
      omega (arith, more, before);
}

waits-added : (log : List Entry) (old new : List Register) (line : ℕ) (target : Target) → AddsTarget old new line target
    → IsMissFile new → target.offset.0 < 8 → target.tag < 64 → target.since ≡ length log → CanWait log old
    → CanWait log new
waits-added log old new line target adds file word tag now waits = record {
  file = file;
  performable =
      let passes : is_performable target ≡ true = and_from _ _ (lt-ltb target.offset.0 8 word)
      (lt-ltb target.tag 64 tag) in
      count_of-added_none (λ t. not (is_performable t)) old new line target adds (rw passes refl) waits.performable;
  asked =
      let passes : is_asked_by (length log) target ≡ true = le-leb target.since (length log) (omega (arith, now)) in
      count_of-added_none (λ t. not (is_asked_by (length log) t)) old new line target adds (rw passes refl) waits.asked;
}

tags-added : (log : List Entry) (core : ℕ) (old new : List Register) (states : List TagState) (line : ℕ)
    (target : Target)
    → AddsTarget old new line target → target.tag < 64 → tag_in states target.tag ≡ tag_states.Free
    → HasTags log core old states
    → HasTags log core new (slice_set states target.tag tag_states.Open)
tags-added log core old new states line target adds small free named = record {
  sized = length-set states target.tag tag_states.Open ∙ named.sized;
  opened = λ tag. ⊎_elim (opened_here tag) (opened_there tag) (cases_eq tag target.tag);
  replies = λ tag number is.
      ⊎_elim (λ same. absurd (Open_names number (sym (here tag same) ∙ is)))
      (λ other. named.replies tag number (sym (there tag other) ∙ is)) (cases_eq tag target.tag);
}
  where
    here : (tag : ℕ) → tag ≡ target.tag → tag_in (slice_set states target.tag tag_states.Open) tag ≡ tag_states.Open
    here tag same =
        let size = named.sized in
        ap (tag_in (slice_set states target.tag tag_states.Open)) same
        ∙ get_or-set_same states target.tag tag_states.Open tag_states.Free (omega (arith, small, size))

    there : (tag : ℕ) → tag ≢ target.tag → tag_in (slice_set states target.tag tag_states.Open) tag ≡ tag_in states tag
    there tag other = get_or-set_other states target.tag tag tag_states.Open tag_states.Free other

    opened_here : (tag : ℕ) → tag ≡ target.tag
        → count_of (has_tag tag) new ≡ one_if (is_open (tag_in (slice_set states target.tag tag_states.Open) tag))
    opened_here tag same =
        let before = tag-names_none log core old states tag named (ap (λ t. tag_in states t) same ∙ free) in
        let more = added (has_tag tag) old new line target adds in
        let mine = one (has_tag tag target) (eq-eqb target.tag tag (sym same)) in
        let now = ap (λ state. one_if (is_open state)) (here tag same) in
        omega (arith, before, more, mine, now)

    opened_there : (tag : ℕ) → tag ≢ target.tag
        → count_of (has_tag tag) new ≡ one_if (is_open (tag_in (slice_set states target.tag tag_states.Open) tag))
    opened_there tag other =
        let before = named.opened tag in
        let more = added (has_tag tag) old new line target adds in
        let mine = none (has_tag tag target) (ne_eqb target.tag tag (λ same. other (sym same))) in
        let now = ap (λ state. one_if (is_open state)) (there tag other) in
        omega (arith, before, more, mine, now)

    Open_names : (number : ℕ) → tag_states.Open ≢ tag_states.Performed number
    Open_names number same = cc

order-added : (lines : Lines) (log : List Entry) (core : ℕ) (old new : List Register) (accepted line : ℕ)
    (target : Target)
    → AddsTarget old new line target → target.seq ≡ accepted → StandsOnce log core old accepted
    → StandsInOrder lines log core old
    → StandsInOrder lines log core new
order-added lines log core old new accepted line target adds next stands order = record {
  targets =
      adds.ordered order.targets
      (All-weaker (λ (t : Target). t.seq < accepted) (λ t. t.seq < target.seq) (λ t below. omega (arith, below, next))
      (targets_of old line)
      (targets-below log core old accepted line stands));
  entries = λ k d inside local own on.
      let before = order.entries k d inside local own on in
      let below = entries-below log core old accepted stands k d inside own in
      ⊎_elim
      (λ here.
      rw here
      (rw adds.here
      (All-push (λ (t : Target). (get_or log k d).seq < t.seq) (targets_of old line) target (rw here at before)
      (omega (arith, below, next)))))
      (λ other. rw (adds.others local.0 other) before) (cases_eq local.0 line);
}

pub account-added : (lines : Lines) (log : List Entry) (core : ℕ) (old new : List Register) (states : List TagState)
    (accepted line : ℕ)
    (target : Target) → AddsTarget old new line target → IsMissFile new → target.offset.0 < 8 → target.tag < 64
    → target.seq ≡ accepted → target.since ≡ length log → tag_in states target.tag ≡ tag_states.Free
    → IsAccount lines log core old states accepted
    → IsAccount lines log core new (slice_set states target.tag tag_states.Open) (accepted + 1)
account-added lines log core old new states accepted line target adds file word tag next now free account = record {
  standing = once-added log core old new accepted line target adds next account.standing;
  waits = waits-added log old new line target adds file word tag now account.waits;
  tags = tags-added log core old new states line target adds tag free account.tags;
  order = order-added lines log core old new accepted line target adds next account.standing account.order;
}
