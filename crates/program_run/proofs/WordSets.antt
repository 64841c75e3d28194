-- Which cores the set of a word has.
use Rattle.std.proofs.Common.{◌≡◌, ℕ, ◌-◌, ◌^◌, ◌<◌, true, refl}
use Rattle.std.proofs.lemmas.Bool.Decides.{nat_tests}
use Rattle.std.proofs.lemmas.Grind.{get_or-set_at}
use Rattle.std.proofs.lemmas.List.{get_or-replicate, get_or-set_other}
use Rattle.std.proofs.lemmas.Nat.Bits.{bit_at_ones}
use Rattle.address_map.specs.CoreSet.{has}
use Rattle.address_map.proofs.CoreSets.{has-zero, has-without}

-- the set in which each bit is 1 has each core that a set can have
pub full_set_has_each_core : (core : ℕ) → core < 64 → has (2 ^ 64 - 1) core ≡ true
unfolding has
full_set_has_each_core core below = rw (bit_at_ones 64 core below) refl

-- what the sets of all words have once that of one word is another, for tactics
pub ruleset word_sets = (
  get_or-replicate,
  get_or-set_at,
  get_or-set_other,
  nat_tests,
  has-zero,
  has-without,
  full_set_has_each_core,
)
