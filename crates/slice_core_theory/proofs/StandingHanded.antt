-- A reply that is handed out: its tag is free then.
use Rattle.std.proofs.Common.{◌≡◌, ◌≢◌, ℕ, ◌<◌, List, length, sym, ap, ◌∙◌, ⊎_elim, arith}
use Rattle.std.specs.Prelude.{slice_set}
use Rattle.std.proofs.lemmas.Bool.{cases_eq, cases_lt}
use Rattle.std.proofs.lemmas.List.{get_or-set_other, get_or-set_same, get_or_past, length-set}
use Rattle.address_map.specs.Locator.{Lines}
use Rattle.mshr_file.specs.declared.registers.Register.{Register}
use Rattle.slice_core_cache.specs.Tags.{tag_in}
use Rattle.slice_core_cache.specs.declared.tags.TagState.{TagState}
use Rattle.slice_core_cache.specs.declared.tags.TagState.TheVariants as tag_states
use Rattle.slice_log.specs.declared.entry.Entry.{Entry}
use Rattle.slice_core_theory.proofs.Lists.{one_if}
use Rattle.slice_core_theory.specs.Standing.{is_open, HasTags, IsAccount}

-- a tag that is performed is one of those that there are
within : (states : List TagState) (tag number : ℕ) → tag_in states tag ≡ tag_states.Performed number → tag
    < length states
within states tag number named =
    ⊎_elim (λ inside. inside) (λ past. absurd (Free_names (sym (get_or_past states tag tag_states.Free past) ∙ named)))
    (cases_lt tag (length states))
  where
    Free_names : tag_states.Free ≢ tag_states.Performed number
    Free_names same = cc

tags-handed : (log : List Entry) (core : ℕ) (misses : List Register) (states : List TagState) (tag number : ℕ)
    → tag_in states tag ≡ tag_states.Performed number → HasTags log core misses states
    → HasTags log core misses (slice_set states tag tag_states.Free)
tags-handed log core misses states tag number performed named = record {
  sized = length-set states tag tag_states.Free ∙ named.sized;
  opened = λ other.
      ⊎_elim
      (λ same.
      let before = named.opened other in
      let was = ap (λ t. one_if (is_open (tag_in states t))) same ∙ ap (λ state. one_if (is_open state)) performed in
      let now = ap (λ state. one_if (is_open state)) (here other same) in
      omega (arith, before, was, now))
      (λ apart. named.opened other ∙ ap (λ state. one_if (is_open state)) (sym (there other apart)))
      (cases_eq other tag);
  replies = λ other entry is.
      ⊎_elim (λ same. absurd (Free_names entry (sym (here other same) ∙ is)))
      (λ apart. named.replies other entry (sym (there other apart) ∙ is)) (cases_eq other tag);
}
  where
    here : (other : ℕ) → other ≡ tag → tag_in (slice_set states tag tag_states.Free) other ≡ tag_states.Free
    here other same =
        ap (tag_in (slice_set states tag tag_states.Free)) same
        ∙ get_or-set_same states tag tag_states.Free tag_states.Free (within states tag number performed)

    there : (other : ℕ) → other ≢ tag → tag_in (slice_set states tag tag_states.Free) other ≡ tag_in states other
    there other apart = get_or-set_other states tag other tag_states.Free tag_states.Free apart

    Free_names : (n : ℕ) → tag_states.Free ≢ tag_states.Performed n
    Free_names n same = cc

pub account-handed : (lines : Lines) (log : List Entry) (core : ℕ) (misses : List Register) (states : List TagState)
    (accepted tag number : ℕ) → tag_in states tag ≡ tag_states.Performed number
    → IsAccount lines log core misses states accepted
    → IsAccount lines log core misses (slice_set states tag tag_states.Free) accepted
account-handed lines log core misses states accepted tag number performed account = record {
  standing = account.standing;
  waits = account.waits;
  tags = tags-handed log core misses states tag number performed account.tags;
  order = account.order;
}
