-- What a word of a `forbid` line claims of a reply.
use Rattle.std.specs.Prelude.{◌≡◌, ℕ, Bool, ◌+◌, ◌≤◌, ◌==◌, List, [], ◌∷◌, Some, IsTrue, length, map, take, drop}
use Rattle.std.specs.List.{position}
use Rattle.std.specs.Str.Parse.{digits_value}
use Rattle.litmus_text.specs.Number.{IsNumber}
use Rattle.litmus_test.specs.declared.claim.Claim.{Claim}
use Rattle.litmus_test.specs.declared.test.TheConstants.{MOST_PAIRS}
use Rattle.litmus_test.specs.Name.{is_name}

-- whether a byte is `=`
abbrev pub is_equals_sign : ℕ → Bool
is_equals_sign b = b == 61

-- the word is NAME=VALUE, split at its first `=`
pub record IsClaim (word name : List ℕ) (value : ℕ) : Type 0 where
  pub at : ℕ
  pub parted : position is_equals_sign word ≡ Some at
  pub before : take at word ≡ name
  pub form : IsTrue (is_name name)
  pub behind : IsNumber (drop (at + 1) word)
  pub value_is : digits_value 10 (drop (at + 1) word) ≡ value

-- each word claims what is at its place: a name and a value
unfoldable pub AreClaims : List (List ℕ) → List (List ℕ × ℕ) → Type 0
AreClaims [] [] = Unit {0}
AreClaims [] (claim ∷ claims) = ⊥
AreClaims (word ∷ words) [] = ⊥
AreClaims (word ∷ words) (claim ∷ claims) = IsClaim word claim.0 claim.1 × AreClaims words claims

-- the words are these claims, one to 16
pub record WritesClaims (words : List (List ℕ)) (claims : List (List ℕ × ℕ)) : Type 0 where
  pub written : AreClaims words claims
  pub some : 1 ≤ length claims
  pub few : length claims ≤ MOST_PAIRS

-- the names and values of claims that were read
abbrev pub pair_of_claim : Claim → List ℕ × ℕ
pair_of_claim claim = (claim.name.now, claim.value)

abbrev pub claims_of : List Claim → List (List ℕ × ℕ)
claims_of claims = map pair_of_claim claims
