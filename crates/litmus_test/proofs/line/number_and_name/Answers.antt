use Rattle.std.proofs.Common.{◌≡◌, ◌≤◌, ◌<◌, ℕ, List, [], ◌∷◌, arith, get_or, length, map, sym}
use Rattle.std.specs.Str.Parse.{digits_value}
use Rattle.litmus_text.specs.Form.{Writes, key, num}
use Rattle.litmus_text.specs.Number.{IsNumber}
use Rattle.litmus_test.proofs.line.number_and_name.Goals as goal

module _ {X : Type 0} (text : X → List ℕ) where
  -- what two words write, by what each is
  written : (words : List X) (d : X) (n : ℕ) (name : List ℕ) → 2 ≤ length words → length words < 3
      → IsNumber (text (get_or words 0 d)) × (n ≡ digits_value 10 (text (get_or words 0 d)))
      → name ≡ text (get_or words 1 d) → Writes (map text words) (num n ∷ key name ∷ [])
  written (a ∷ b ∷ []) d n name least most x same = (x.0, sym x.1, (sym same, tt))
  written words d n name least most x same = absurd (omega arith)

  -- and nothing else
  only : (words : List X) (n n' : ℕ) (name name' : List ℕ) → 2 ≤ length words → length words < 3
      → Writes (map text words) (num n ∷ key name ∷ [])
      → Writes (map text words) (num n' ∷ key name' ∷ [])
      → (n' ≡ n) × (name' ≡ name)
  only (a ∷ b ∷ []) n n' name name' least most w w' = (cc, cc)
  only words n n' name name' least most w w' = absurd (omega arith)

pub returns-clause-written : goal.returns-clause-written
returns-clause-written c =
    written (λ w. w.now) c.args.words.now _ _ _ c.in-len2.len_at_least c.in-len2.len_below
    c.in_ok-number_of.ensures.ok c.in_ok-name.ensures.same

pub returns-clause-only : goal.returns-clause-only
returns-clause-only c = λ n name.
    only (λ w. w.now) c.args.words.now _ n _ name c.in-len2.len_at_least c.in-len2.len_below
    (returns-clause-written c)
