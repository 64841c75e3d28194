-- Slices that are settled in turn.
use Rattle.std.proofs.Common.{◌≡◌, ℕ, ◌+◌, ◌<◌, ◌≤◌, ◌∙◌, List, true, false, Option, Some, None, MatchOption, arith}
use Rattle.std.proofs.Common.{inl, inr, map, sym, subst}
use Rattle.std.proofs.lemmas.Bool.{cases_eq, false≢true}
use Rattle.std.specs.Prelude.{is_some}
use Rattle.address_map.specs.declared.address.SliceId.{SliceId}
use Rattle.address_map.specs.declared.config.Config.{Config}
use Rattle.core_thread_system.specs.Core.{CoreView}
use Rattle.drain.specs.Audited.{AreSettledBelow, IsSettledSlice}
use Rattle.drain.specs.Valued.{settled_counter, with_slice, with_slices}
use Rattle.drain.specs.declared.report.CounterValue.{CounterValue}
use Rattle.drain.proofs.Valued.{all-set, slice-set}

pub none-settled : (c : Config) (cores : List CoreView) → AreSettledBelow c cores 0
none-settled c cores slice below = absurd (omega (arith, below))

pub settled-more : (c : Config) (cores : List CoreView) (n : ℕ) → AreSettledBelow c cores n → IsSettledSlice c cores n
    → AreSettledBelow c cores (n + 1)
settled-more c cores n before here slice below = elim (cases_eq slice n) [
  | inl same ↦ subst (IsSettledSlice c cores) (sym same) here
  | inr other ↦ before slice (omega (arith, below, other))
]

-- The slices below this number are settled, and their counters have the values that they have there.
pub record AreValued (c : Config) (cores : List CoreView) (n : ℕ) (counters : List CounterValue) : Type 0 where
  pub settled : AreSettledBelow c cores n
  pub set : counters ≡ map (with_slices c cores n) c.counters

-- So they are, or those below the first that differs are settled.
abbrev pub AreTried : Config → List CoreView → ℕ → Option SliceId → List CounterValue → Type 0
AreTried c cores n differs counters =
    MatchOption differs (AreValued c cores n counters) (λ slice. (slice.0 < c.slices) × AreSettledBelow c cores slice.0)

pub tried-settled : (c : Config) (cores : List CoreView) (n : ℕ) (differs : Option SliceId)
    (old new : List CounterValue)
    → AreTried c cores n differs old → IsSettledSlice c cores n → new ≡ map (with_slice c cores n) old
    → AreTried c cores (n + 1) differs new
tried-settled c cores n None old new tried here set = record {
  settled = settled-more c cores n tried.settled here;
  set = slice-set c cores n c.counters old new tried.set set;
}
tried-settled c cores n (Some slice) old new tried here set = tried

-- The first that differs: all slices below it are settled.
pub tried-first : (c : Config) (cores : List CoreView) (slice : SliceId) (differs : Option SliceId)
    (old new : List CounterValue) → slice.0 < c.slices → AreTried c cores slice.0 differs old → is_some differs ≡ false
    → AreTried c cores (slice.0 + 1) (Some slice) new
tried-first c cores slice None old new known tried none = (known, tried.settled)
tried-first c cores slice (Some other) old new known tried none = absurd (false≢true (sym none))

pub tried-again : (c : Config) (cores : List CoreView) (n : ℕ) (differs : Option SliceId) (old new : List CounterValue)
    → AreTried c cores n differs old → is_some differs ≡ true → AreTried c cores (n + 1) differs new
tried-again c cores n None old new tried some = absurd (false≢true some)
tried-again c cores n (Some slice) old new tried some = tried

pub all-tried : (c : Config) (cores : List CoreView) (n : ℕ) (differs : Option SliceId) (counters : List CounterValue)
    → AreTried c cores n differs counters → differs ≡ None → n ≡ c.slices → AreValued c cores c.slices counters
all-tried c cores n None counters tried none all = subst (λ (k : ℕ). AreValued c cores k counters) all tried
all-tried c cores n (Some slice) counters tried none all = absurd (cc)

-- Once all slices are settled, all counters have the values that they have there.
pub all-valued : (c : Config) (cores : List CoreView) (counters : List CounterValue) → 1 ≤ c.slices
    → AreValued c cores c.slices counters → counters ≡ map (settled_counter c cores) c.counters
all-valued c cores counters some valued = valued.set ∙ all-set c cores c.counters some
