use Rattle.std.proofs.Common.{◌≡◌, ◌≤◌, ◌<◌, ℕ, List, [], ◌∷◌, arith, get_or, length, map, sym}
use Rattle.std.specs.Str.Parse.{digits_value}
use Rattle.litmus_text.specs.Form.{Writes, key, num}
use Rattle.litmus_text.specs.Number.{IsNumber}
use Rattle.litmus_test.proofs.line.three_numbers_and_name.Goals as goal

module _ {X : Type 0} (text : X → List ℕ) where
  -- what four words write, by what each is
  written : (words : List X) (d : X) (n m k : ℕ) (name : List ℕ) → 4 ≤ length words → length words < 5
      → IsNumber (text (get_or words 0 d)) × (n ≡ digits_value 10 (text (get_or words 0 d)))
      → IsNumber (text (get_or words 1 d)) × (m ≡ digits_value 10 (text (get_or words 1 d)))
      → IsNumber (text (get_or words 2 d)) × (k ≡ digits_value 10 (text (get_or words 2 d)))
      → name ≡ text (get_or words 3 d) → Writes (map text words) (num n ∷ num m ∷ num k ∷ key name ∷ [])
  written (a ∷ b ∷ e ∷ h ∷ []) d n m k name least most x y z same = (x.0, sym x.1, (y.0, sym y.1, (z.0, sym z.1, (sym same, tt))))
  written words d n m k name least most x y z same = absurd (omega arith)

  -- and nothing else
  only : (words : List X) (n m k n' m' k' : ℕ) (name name' : List ℕ) → 4 ≤ length words → length words < 5
      → Writes (map text words) (num n ∷ num m ∷ num k ∷ key name ∷ [])
      → Writes (map text words) (num n' ∷ num m' ∷ num k' ∷ key name' ∷ [])
      → (n' ≡ n) × (m' ≡ m) × (k' ≡ k) × (name' ≡ name)
  only (a ∷ b ∷ e ∷ h ∷ []) n m k n' m' k' name name' least most w w' = (cc, cc, cc, cc)
  only words n m k n' m' k' name name' least most w w' = absurd (omega arith)

pub returns-clause-written : goal.returns-clause-written
returns-clause-written c =
    written (λ w. w.now) c.args.words.now _ _ _ _ _ c.in-len4.len_at_least c.in-len4.len_below
    c.in_ok-number_of.ensures.ok
    c.in_ok-number_of-2.ensures.ok
    c.in_ok-number_of-3.ensures.ok c.in_ok-name.ensures.same

pub returns-clause-only : goal.returns-clause-only
returns-clause-only c = λ n m k name.
    only (λ w. w.now) c.args.words.now _ _ _ n m k _ name c.in-len4.len_at_least c.in-len4.len_below
    (returns-clause-written c)
