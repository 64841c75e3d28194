-- A word that is two texts, one after the other.
use Rattle.std.proofs.Common.{◌≡◌, ◌≢◌, ◌++◌, ◌∙◌, ℕ, List, Bool, false, true, ap, sym}
use Rattle.std.proofs.lemmas.List.Prefix.{front_rest}
use Rattle.std.specs.Bool.{Decides}

-- the second text comes after the first
pub with_rest : (word first second rest : List ℕ) (same : Bool) → word ≡ first ++ rest → Decides same (rest ≡ second)
    → Decides same (word ≡ first ++ second)
with_rest word first second rest same is decides = (
  λ yes. is ∙ ap (λ (end : List ℕ). first ++ end) (decides.0 yes),
  λ joined. decides.1 (sym (front_rest word first rest is) ∙ front_rest word first second joined),
)

never : false ≡ true → ⊥
never both = cc

-- where the word doesn't begin with the first text it isn't both
pub without : (word first second : List ℕ) → ((rest : List ℕ) → word ≢ first ++ rest)
    → Decides false (word ≡ first ++ second)
without word first second none = (λ yes. absurd (never yes), λ joined. absurd (none second joined))

-- what a test denies isn't so
pub denied : {P : Type 0} → Decides false P → P → ⊥
denied decides so = absurd (never (decides.1 so))
