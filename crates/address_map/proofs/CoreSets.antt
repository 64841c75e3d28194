-- What a set of cores has after a core is put in or taken out.
use Rattle.std.proofs.Common.{◌≡◌, ◌≢◌, ℕ, ◌*◌, ◌/◌, ◌%◌, ◌^◌, ◌==◌, ◌<◌, ◌≤◌, Bool, true, false, not, ◌&&◌, ◌||◌, refl}
use Rattle.std.proofs.Common.{sym, ◌∙◌, ap, arith, inl, inr, if◌then◌else◌, eqb-true, bit_and, bit_or, bit_xor, nat_lt}
use Rattle.std.specs.Int.{bit_at}
use Rattle.std.specs.Int.Bits.{or_zero_r, xor_zero_r}
use Rattle.std.proofs.Math.Bool.{or-true, or-false, and-true, and-false}
use Rattle.std.proofs.lemmas.Bool.{eq-eqb, eqb-false, ne_eqb, lt-ltb, le-ltb, cases_lt, cases_eq, cases_Bool}
use Rattle.std.proofs.lemmas.Bool.Decides.{eqb_tells}
use Rattle.std.proofs.lemmas.Nat.{one_shl}
use Rattle.std.proofs.lemmas.Nat.Bits.{bit_at_or, bit_at_xor, bit_at-pow_same, bit_at-pow_other, bit_at-lt, bit_at-zero}
use Rattle.std.proofs.lemmas.Nat.Bits.{bit_at_above, shr_and_one, same_from_bits}
use Rattle.address_map.specs.CoreSet.{has, only, with, without}

-- the empty set has no core
pub has-zero : (core : ℕ) → has 0 core ≡ false
unfolding has
has-zero core = rw bit_at-zero refl

-- a core that a set can have is below 64
pub has-past : (set core : ℕ) → set < 2 ^ 64 → 64 ≤ core → has set core ≡ false
unfolding has
has-past set core fits past = rw (bit_at_above set 64 core fits past) refl

pub has-below : (set core : ℕ) → set < 2 ^ 64 → has set core ≡ true → core < 64
has-below set core fits there =
    elim (cases_lt core 64) [
      | inl below ↦ below
      | inr past ↦ let clash : true ≡ false = sym there ∙ has-past set core fits past in absurd (cc clash)
    ]

-- sets with the same cores are the same
pub same_from_has : (set other : ℕ) → ((core : ℕ) → has set core ≡ has other core) → set ≡ other
unfolding has
same_from_has set other same =
    same_from_bits set other
    (λ core. bit (bit_at set core) (bit_at other core) (bit_at-lt set core) (bit_at-lt other core) (same core))
  where
    bit : (a b : ℕ) → a < 2 → b < 2 → (a == 1) ≡ (b == 1) → a ≡ b
    bit a b small small_too e =
        elim (eqb_tells b 1) [
          | inl one ↦ eqb-true a 1 (e ∙ one.0) ∙ sym one.1
          | inr none ↦ let apart = eqb-false a 1 (e ∙ none.0) in omega (arith, apart, none.1)
        ]

-- the empty set is 0
pub zero-from_none : (set : ℕ) → ((core : ℕ) → has set core ≡ false) → set ≡ 0
zero-from_none set none = same_from_has set 0 (λ core. none core ∙ sym (has-zero core))

pub only-below : (core : ℕ) → core < 64 → only core ≡ 2 ^ core
unfolding only
only-below core below = rw (lt-ltb core 64 below) refl

pub only-past : (core : ℕ) → 64 ≤ core → only core ≡ 0
unfolding only
only-past core past = rw (le-ltb core 64 past) refl

-- a core past 63 is put into no set
pub with-past : (set core : ℕ) → 64 ≤ core → with set core ≡ set
unfolding with
with-past set core past = rw (only-past core past) (or_zero_r set)

pub has-only : (core other : ℕ) → core < 64 → has (only core) other ≡ (other == core)
unfolding has
has-only core other below =
    elim (eqb_tells other core) [
      | inl same ↦ rw (only-below core below, same.0, same.1, bit_at-pow_same core) refl
      | inr apart ↦ rw (only-below core below, apart.0, bit_at-pow_other core other apart.1) refl
    ]

-- the core that was put in is there
pub has-with_same : (set core : ℕ) → core < 64 → has (with set core) core ≡ true
unfolding has with
has-with_same set core below =
    let bit : bit_at (bit_or set (2 ^ core)) core ≡ 1 =
    grind (arith, bit_at_or set (2 ^ core) core, bit_at-pow_same core, bit_at-lt set core) in
    rw (only-below core below, bit) refl

-- every other core is there as it was
pub has-with_other : (set core other : ℕ) → other ≢ core → has (with set core) other ≡ has set other
unfolding has with
has-with_other set core other apart =
    elim (cases_lt core 64) [
      | inl below ↦ put set core other below apart
      | inr past ↦ ap (λ cores. has cores other) (with-past set core past)
    ]
  where
    put : (set core other : ℕ) → core < 64 → other ≢ core → has (with set core) other ≡ has set other
    put set core other below apart =
        let bit : bit_at (bit_or set (2 ^ core)) other ≡ bit_at set other =
        grind (arith, bit_at_or set (2 ^ core) other, bit_at-pow_other core other apart, bit_at-lt set other) in
        rw (only-below core below) (ap (λ b. b == 1) bit)

pub has-with : (set core other : ℕ) → core < 64 → has (with set core) other ≡ (has set other || other == core)
has-with set core other below =
    elim (eqb_tells other core) [
      | inl same ↦ rw (same.0, same.1, has-with_same set core below) (sym (or-true _))
      | inr apart ↦ rw (apart.0, has-with_other set core other apart.1) (sym (or-false _))
    ]

-- the same for any core that is put in, of the cores that a set can have
pub has-with_below : (set core other : ℕ) → other < 64 → has (with set core) other ≡ (has set other || other == core)
has-with_below set core other below =
    elim (eqb_tells other core) [
      | inl same ↦ rw (same.0, same.1, has-with_same set core (rw same.1 at below)) (sym (or-true _))
      | inr apart ↦ rw (apart.0, has-with_other set core other apart.1) (sym (or-false _))
    ]

pub has-only_below : (core other : ℕ) → other < 64 → has (only core) other ≡ (other == core)
has-only_below core other below =
    elim (cases_lt core 64) [
      | inl within ↦ has-only core other within
      | inr past ↦ rw (only-past core past, has-zero other) (sym (ne_eqb other core (λ same. omega (arith, same))))
    ]

-- the core that was taken out is gone
pub has-without_same : (set core : ℕ) → has (without set core) core ≡ false
unfolding has without
has-without_same set core = flipped (has set core) refl
  where
    flipped : (there : Bool) → has set core ≡ there → has (if there then bit_xor set (2 ^ core) else set) core ≡ false
    flipped false e = e
    flipped true e =
        let bit : bit_at (bit_xor set (2 ^ core)) core ≡ 0 =
        grind (arith, bit_at_xor set (2 ^ core) core, bit_at-pow_same core, eqb-true (bit_at set core) 1 e) in
        rw bit refl

-- every other core is there as it was
pub has-without_other : (set core other : ℕ) → other ≢ core → has (without set core) other ≡ has set other
unfolding has without
has-without_other set core other apart = kept (has set core)
  where
    kept : (there : Bool) → has (if there then bit_xor set (2 ^ core) else set) other ≡ has set other
    kept false = refl
    kept true =
        let bit : bit_at (bit_xor set (2 ^ core)) other ≡ bit_at set other =
        grind (arith, bit_at_xor set (2 ^ core) other, bit_at-pow_other core other apart, bit_at-lt set other) in
        ap (λ b. b == 1) bit

pub has-without : (set core other : ℕ) → has (without set core) other ≡ (has set other && not (other == core))
has-without set core other =
    elim (eqb_tells other core) [
      | inl same ↦ rw (same.0, same.1, has-without_same set core) (sym (and-false _))
      | inr apart ↦ rw (apart.0, has-without_other set core other apart.1) (sym (and-true _))
    ]

-- to take out a core that isn't there changes nothing
pub without-missing : (set core : ℕ) → has set core ≡ false → without set core ≡ set
unfolding without
without-missing set core missing = rw missing refl

-- a set with a core isn't 0
pub some-from_has : (set core : ℕ) → has set core ≡ true → set ≢ 0
some-from_has set core there empty =
    let none : has set core ≡ false = rw empty (has-zero core) in
    let clash : true ≡ false = sym there ∙ none in
    cc clash

pub only-some : (core : ℕ) → core < 64 → only core ≢ 0
only-some core below = some-from_has (only core) core (has-only core core below ∙ eq-eqb core core refl)

pub with-some : (set core : ℕ) → set ≢ 0 → with set core ≢ 0
with-some set core some empty = some (zero-from_none set none)
  where
    none : (other : ℕ) → has set other ≡ false
    none other =
        elim (cases_Bool (has set other)) [
          | inl there ↦
              elim (cases_eq other core) [
                | inl here ↦ absurd (some-from_has (with set core) other (kept here there) empty)
                | inr apart ↦
                    absurd (some-from_has (with set core) other (has-with_other set core other apart ∙ there) empty)
              ]
          | inr missing ↦ missing
        ]
      where
        kept : other ≡ core → has set other ≡ true → has (with set core) other ≡ true
        kept here there =
            elim (cases_lt core 64) [
              | inl below ↦ rw here (has-with_same set core below)
              | inr past ↦ rw (with-past set core past) there
            ]

-- the test and the sets as a machine of 64 bits computes them
pub has-shifted : (set core : ℕ) → has set core ≡ (bit_and (set / 2 ^ core) 1 == 1)
unfolding has
has-shifted set core = rw (shr_and_one set core) refl

pub tests-past : (set core : ℕ) → set < 18446744073709551616 → 64 ≤ core → nat_lt core 64 ≡ has set core
tests-past set core fits past = le-ltb core 64 past ∙ sym (has-past set core fits past)

pub only-shifted : (core : ℕ) → core < 64 → 1 * 2 ^ core % 18446744073709551616 ≡ only core
only-shifted core below = one_shl core 64 below ∙ sym (only-below core below)

pub with-joined : (set core : ℕ) → bit_or set (only core) ≡ with set core
unfolding with
with-joined set core = refl

pub without-cleared : (set core : ℕ) → has set core ≡ true → core < 64 → bit_xor set (only core) ≡ without set core
unfolding without
without-cleared set core there below = rw (there, only-below core below) refl

-- it is the same to take out a core whether it was put in before or not
pub without-with_any : (set core : ℕ) → without (with set core) core ≡ without set core
without-with_any set core = same_from_has (without (with set core) core) (without set core) same
  where
    same : (other : ℕ) → has (without (with set core) core) other ≡ has (without set core) other
    same other =
        elim (cases_eq other core) [
          | inl here ↦ rw here (has-without_same (with set core) core ∙ sym (has-without_same set core))
          | inr apart ↦
              has-without_other (with set core) core other apart
              ∙ has-with_other set core other apart
              ∙ sym (has-without_other set core other apart)
        ]

pub without-joined : (set core : ℕ) → set < 18446744073709551616 →
    bit_xor (bit_or set (only core)) (only core) ≡ without set core
without-joined set core fits =
    elim (cases_lt core 64) [
      | inl below ↦
          ap (λ both. bit_xor both (only core)) (with-joined set core)
          ∙ without-cleared (with set core) core (has-with_same set core below) below
          ∙ without-with_any set core
      | inr past ↦
          rw (only-past core past)
          (xor_zero_r (bit_or set 0) ∙ or_zero_r set ∙ sym (without-missing set core (has-past set core fits past)))
    ]
