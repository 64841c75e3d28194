-- The parts of a text, and what is read from them.
use Rattle.std.proofs.Common.{◌≡◌, ℕ, ◌+◌, ◌-◌, true, false, List, [], ◌∷◌, Option, None, Some, Bor, length, take, drop}
use Rattle.std.proofs.Common.{refl, sym, ap, subst, ◌∙◌}
use Rattle.std.specs.Prelude.{MatchOption, option_and_then, option_map, slice_get, if◌then◌else◌}
use Rattle.std.specs.Char.{is_ascii_digit}
use Rattle.std.specs.Str.{bytes_eq}
use Rattle.address_map.specs.declared.address.CoreId.{CoreId}
use Rattle.bstr.specs.Find.{first_of, matches}
use Rattle.bstr.specs.Text.{SplitsOnce}
use Rattle.murphi_trace.specs.Fired.{before, behind, pair_of, parts_around}
use Rattle.murphi_trace.specs.Rule.{core_of}

abbrev pub core_at : ℕ → CoreId
core_at number = record { 0 = number }

-- a text that is split at a mark is parted there
pub is_parted : (mark text : List ℕ) (parts : Option (Bor (List ℕ) × Bor (List ℕ)))
    → SplitsOnce text mark (first_of (matches text mark 0)) parts → option_map pair_of parts ≡ parts_around mark text
unfolding parts_around
is_parted mark text None none = sym (ap (option_map (λ k. (take k text, drop (k + length mark) text))) none)
is_parted mark text (Some parts) at =
    let same : pair_of parts ≡ (take at.0 text, drop (at.0 + length mark) text) = cc (at.2, at.3) in
    ap Some same ∙ sym (ap (option_map (λ k. (take k text, drop (k + length mark) text))) at.1)

-- a text that is stripped of a mark
pub is_behind : (mark text : List ℕ) (r : Option (Bor (List ℕ)))
    → MatchOption r (bytes_eq (take (length mark) text) mark ≡ false)
    (λ x. (bytes_eq (take (length mark) text) mark ≡ true) × (x.now ≡ drop (length mark) text)
    × (length x.now + length mark ≡ length text)) → option_map (λ rest. rest.now) r ≡ behind mark text
unfolding behind
is_behind mark text None fails = rw fails
is_behind mark text (Some x) is = rw (is.0, is.1)

pub is_before : (mark text : List ℕ) (r : Option (Bor (List ℕ)))
    → MatchOption r (bytes_eq (drop (length text - length mark) text) mark ≡ false)
    (λ x. (bytes_eq (drop (length text - length mark) text) mark ≡ true)
    × (x.now ≡ take (length text - length mark) text)
    × (length x.now + length mark ≡ length text)) → option_map (λ front. front.now) r ≡ before mark text
unfolding before
is_before mark text None fails = rw fails
is_before mark text (Some x) is = rw (is.0, is.1)

-- the digit that a text begins with
pub no_digit : (text : List ℕ) → None ≡ slice_get text 0 → None ≡ core_of text
unfolding core_of
no_digit [] none = refl
no_digit (byte ∷ more) none = absurd (cc)

pub one_digit : (text : List ℕ) (byte : ℕ) → Some byte ≡ slice_get text 0 → true ≡ is_ascii_digit byte
    → Some (core_at (byte - 48)) ≡ core_of text
unfolding core_of
one_digit [] byte first digit = absurd (cc)
one_digit (b ∷ more) byte first digit =
    let same : byte ≡ b = cc in
    subst (λ x. Some (core_at (byte - 48)) ≡ (if is_ascii_digit x then Some (core_at (x - 48)) else None)) same
    (rw (sym digit) refl)

pub other_byte : (text : List ℕ) (byte : ℕ) → Some byte ≡ slice_get text 0 → false ≡ is_ascii_digit byte
    → None ≡ core_of text
unfolding core_of
other_byte [] byte first other = absurd (cc)
other_byte (b ∷ more) byte first other =
    let same : byte ≡ b = cc in
    subst (λ x. None ≡ (if is_ascii_digit x then Some (core_at (x - 48)) else None)) same (rw (sym other) refl)

-- where there is nothing, nothing follows; and from something, what follows from it
pub from_none : {A B : Type 0} (f : A → Option B) (o : Option A) → None ≡ o → None ≡ option_and_then f o
from_none f o e = ap (option_and_then f) e

pub from_some : {A B : Type 0} (f : A → Option B) (o : Option A) (x : A) (y : Option B) → Some x ≡ o → y ≡ f x
    → y ≡ option_and_then f o
from_some f o x y e h = h ∙ ap (option_and_then f) e
