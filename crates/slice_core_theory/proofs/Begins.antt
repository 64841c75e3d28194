-- The account of a core that has asked for nothing yet.
use Rattle.std.proofs.Common.{◌≡◌, ℕ, [], replicate, refl, sym, ⊎_elim, arith}
use Rattle.std.specs.Prelude.{nat_lt}
use Rattle.std.proofs.lemmas.Bool.{cases_lt, le-ltb}
use Rattle.std.proofs.lemmas.List.{get_or-replicate, get_or_past, length-replicate}
use Rattle.std.proofs.lemmas.List.Elements.{All-nil}
use Rattle.address_map.specs.Locator.{Lines}
use Rattle.slice_core_cache.specs.Tags.{tag_in}
use Rattle.slice_core_cache.specs.declared.tags.TagState.TheVariants as tag_states
use Rattle.slice_core_theory.proofs.Lists.{none}
use Rattle.slice_core_theory.specs.Standing.{IsAccount}

-- All tags are free.
pub tags-free : (count tag : ℕ) → tag_in (replicate count tag_states.Free) tag ≡ tag_states.Free
tags-free count tag =
    ⊎_elim
    (λ inside. get_or-replicate count tag tag_states.Free tag_states.Free inside)
    (λ past. let long = length-replicate count tag_states.Free in
    get_or_past (replicate count tag_states.Free) tag tag_states.Free
    (omega (arith, past, long)))
    (cases_lt tag count)

pub account-begins : (lines : Lines) (core : ℕ) → IsAccount lines [] core [] (replicate 64 tag_states.Free) 0
account-begins lines core = record {
  standing = record { once = λ seq. sym (none (nat_lt seq 0) (le-ltb seq 0 (omega arith))); counted = refl };
  waits = record {
    file = record { single = λ line. omega arith; waited = All-nil _ };
    performable = refl;
    asked = refl;
  };
  tags = record {
    sized = length-replicate 64 tag_states.Free;
    opened = λ tag. rw (tags-free 64 tag) refl;
    replies = λ tag number named. absurd (free (rw (tags-free 64 tag) at named));
  };
  order = record {
    targets = λ line i j d before inside. absurd (omega (arith, inside));
    entries = All-nil _;
  };
}
  where
    free : {number : ℕ} → tag_states.Free ≡ tag_states.Performed number → ⊥
    free h = cc
