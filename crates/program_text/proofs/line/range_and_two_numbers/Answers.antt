use Rattle.std.proofs.Common.{◌≡◌, ◌≤◌, ◌<◌, ℕ, List, [], ◌∷◌, arith, get_or, length, map, sym}
use Rattle.std.proofs.lemmas.Result.{err_from_is_err_and}
use Rattle.std.specs.Str.Parse.{digits_value}
use Rattle.litmus_text.specs.Form.{num}
use Rattle.litmus_text.specs.Number.{IsNumber}
use Rattle.program_text.specs.Line.{WritesRange}
use Rattle.program_text.specs.Range.{IsRange}
use Rattle.program_text.proofs.LineLemmas.{first_refused}
use Rattle.program_text.proofs.line.range_and_two_numbers.Goals as goal

module _ {X : Type 0} (text : X → List ℕ) where
  -- what three words write, by what each is
  written : (words : List X) (d : X) (first last n m : ℕ) → 3 ≤ length words → length words < 4
      → IsRange (text (get_or words 0 d)) first last
      → IsNumber (text (get_or words 1 d)) × (n ≡ digits_value 10 (text (get_or words 1 d)))
      → IsNumber (text (get_or words 2 d)) × (m ≡ digits_value 10 (text (get_or words 2 d)))
      → WritesRange (map text words) first last (num n ∷ num m ∷ [])
  unfolding WritesRange
  written (a ∷ b ∷ e ∷ []) d first last n m least most range x y = (range, (x.0, sym x.1, (y.0, sym y.1, tt)))
  written words d first last n m least most range x y = absurd (omega arith)

  -- and nothing else
  only : (words : List X) (d : X) (first last n m first' last' n' m' : ℕ) → 3 ≤ length words → length words < 4
      → ((f l : ℕ) → IsRange (text (get_or words 0 d)) f l → (f ≡ first) × (l ≡ last))
      → WritesRange (map text words) first last (num n ∷ num m ∷ [])
      → WritesRange (map text words) first' last' (num n' ∷ num m' ∷ [])
      → (first' ≡ first) × (last' ≡ last) × (n' ≡ n) × (m' ≡ m)
  unfolding WritesRange
  only (a ∷ b ∷ e ∷ []) d first last n m first' last' n' m' least most range w w' =
      let same = range first' last' w'.0 in (same.0, same.1, cc, cc)
  only words d first last n m first' last' n' m' least most range w w' = absurd (omega arith)

pub returns-in_err-parse-clause-refused : goal.returns-in_err-parse-clause-refused
returns-in_err-parse-clause-refused c =
    let p = err_from_is_err_and c.from_residual.result c.from_residual.ensures.1 in
    rw p.1
    (λ first last n m. first_refused (λ w. w.now) c.args.words.now _ first last (num n ∷ num m ∷ [])
    (c.in_err-parse.ensures.refused first last))

pub returns-clause-written : goal.returns-clause-written
returns-clause-written c =
    written (λ w. w.now) c.args.words.now _ _ _ _ _ c.in-len3.len_at_least c.in-len3.len_below
    c.in_ok-parse.ensures.written c.in_ok-number_of.ensures.ok c.in_ok-number_of-2.ensures.ok

pub returns-clause-only : goal.returns-clause-only
returns-clause-only c = λ first last n m.
    only (λ w. w.now) c.args.words.now _ _ _ _ _ first last n m c.in-len3.len_at_least c.in-len3.len_below
    c.in_ok-parse.ensures.only (returns-clause-written c)
