-- Seeds that a text gives.
use Rattle.std.proofs.Common.{◌≡◌, ◌≢◌, ℕ, ◌+◌, ◌-◌, ◌^◌, List, ◌++◌, Option, None, Some, arith, codes, inl, inr, sym, ◌∙◌, ⊎_elim}
use Rattle.std.specs.Option.{SomeIff}
use Rattle.std.specs.Str.Parse.{digits_value}
use Rattle.litmus_text.specs.Number.{IsNumber}
use Rattle.program_sweep.specs.declared.seeds.Seeds.{Seeds}
use Rattle.program_sweep.specs.Read.{IsBoundsFault, IsNumeralOf, IsSeeds, IsSeedsFault}
use Rattle.program_sweep.specs.declared.fault.SweepFault.{SweepFault}
use Rattle.program_sweep.specs.declared.fault.SweepFault.TheVariants as faults

-- a number that was read
number_read : (text : List ℕ) (read : Option ℕ) (number : ℕ) → SomeIff read (IsNumber text) (digits_value 10 text)
    → read ≡ Some number → IsNumeralOf number text
number_read text read number parsed is = let these = rw is at parsed in (these.0, sym these.1)

-- the first and the last were read
pub range_read : (text first last : List ℕ) (one other : Option ℕ) (seeds : Seeds)
    → text ≡ first ++ (codes ".." ++ last)
    → SomeIff one (IsNumber first) (digits_value 10 first) → SomeIff other (IsNumber last) (digits_value 10 last)
    → one ≡ Some seeds.first → other ≡ Some (seeds.first + (seeds.count - 1)) → IsSeeds text seeds
range_read text first last one other seeds whole begins ends is_first is_last =
    inl (record {
      first = first;
      last = last;
      whole = whole;
      begins = number_read first one seeds.first begins is_first;
      ends = number_read last other (seeds.first + (seeds.count - 1)) ends is_last;
    })

-- one was read, and is both the first and the last
pub seed_read : (text : List ℕ) (one : Option ℕ) (seeds : Seeds)
    → SomeIff one (IsNumber text) (digits_value 10 text)
    → one ≡ Some seeds.first → one ≡ Some (seeds.first + (seeds.count - 1)) → IsSeeds text seeds
seed_read text one seeds parsed is_first is_last =
    let same : seeds.first ≡ seeds.first + (seeds.count - 1) = let both = sym is_first ∙ is_last in cc in
    inr (number_read text one seeds.first parsed is_first, omega (arith, same, seeds.some))

-- a number that couldn't be read is none
no_number : (text : List ℕ) (read : Option ℕ) → SomeIff read (IsNumber text) (digits_value 10 text) → read ≡ None
    → IsNumber text → ⊥
no_number text read parsed is number = let none = rw is at parsed in none number

-- what is wrong with two numbers is wrong with their range
pub range_fault : (text first last : List ℕ) (one other : Option ℕ) (fault : SweepFault)
    → text ≡ first ++ (codes ".." ++ last)
    → SomeIff one (IsNumber first) (digits_value 10 first) → SomeIff other (IsNumber last) (digits_value 10 last)
    → IsBoundsFault text one other fault → IsSeedsFault text fault
range_fault text first last one other (faults.BadSeeds said) whole begins ends is = (
  is.0,
  inl (
    first,
    last,
    whole,
    ⊎_elim (λ none. inl (no_number first one begins none))
        (λ none. inr (no_number last other ends none)) is.1,
  ),
)
range_fault text first last one other (faults.Backwards said) whole begins ends is = (
  is.0,
  is.1,
  is.2,
  record {
    first = first;
    last = last;
    whole = whole;
    begins = number_read first one is.1 begins is.3;
    ends = number_read last other is.2 ends is.4;
  },
  is.5,
)
range_fault text first last one other faults.TooManyRows whole begins ends is = record {
  first = first;
  last = last;
  whole = whole;
  begins = number_read first one 0 begins is.0;
  ends = number_read last other (2 ^ 64 - 1) ends is.1;
}
range_fault text first last one other (faults.NoValue said) whole begins ends is = absurd is
range_fault text first last one other (faults.Unknown said) whole begins ends is = absurd is
range_fault text first last one other (faults.AddsUp said) whole begins ends is = absurd is
range_fault text first last one other (faults.BadValue name value) whole begins ends is = absurd is
range_fault text first last one other (faults.SameValue name value) whole begins ends is = absurd is
range_fault text first last one other (faults.Twice said) whole begins ends is = absurd is
range_fault text first last one other faults.NoMemory whole begins ends is = absurd is

-- .. and what is wrong with one, which is both the first and the last, is that it is none
pub seed_fault : (text : List ℕ) (one : Option ℕ) (fault : SweepFault)
    → ((first last : List ℕ) → text ≢ first ++ (codes ".." ++ last))
    → SomeIff one (IsNumber text) (digits_value 10 text) → IsBoundsFault text one one fault → IsSeedsFault text fault
seed_fault text one (faults.BadSeeds said) alone parsed is =
    (is.0, inr (alone, ⊎_elim (no_number text one parsed) (no_number text one parsed) is.1))
seed_fault text one (faults.Backwards said) alone parsed is =
    let same : is.1 ≡ is.2 = let both = sym is.3 ∙ is.4 in cc in absurd (omega (arith, same, is.5))
seed_fault text one faults.TooManyRows alone parsed is =
    let same : 0 ≡ 2 ^ 64 - 1 = let both = sym is.0 ∙ is.1 in cc in absurd (omega (arith, same))
seed_fault text one (faults.NoValue said) alone parsed is = absurd is
seed_fault text one (faults.Unknown said) alone parsed is = absurd is
seed_fault text one (faults.AddsUp said) alone parsed is = absurd is
seed_fault text one (faults.BadValue name value) alone parsed is = absurd is
seed_fault text one (faults.SameValue name value) alone parsed is = absurd is
seed_fault text one (faults.Twice said) alone parsed is = absurd is
seed_fault text one faults.NoMemory alone parsed is = absurd is
