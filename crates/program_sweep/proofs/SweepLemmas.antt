-- Rows that are made and printed one after another.
use Rattle.std.proofs.Common.{◌≡◌, ℕ, ◌+◌, List, [], ◌∷◌, ◌++◌, Option, length, ap, arith, sym, subst, ◌∙◌, refl}
use Rattle.std.proofs.Common.{append_assoc, length-append}
use Rattle.std.specs.List.{concat}
use Rattle.std.specs.Io.KnownBytes.{Appends, Keeps}
use Rattle.std.proofs.KnownBytes.{Appends-kept, Appends-nil, Appends-trans}
use Rattle.std.proofs.lemmas.List.{append-nil}
use Rattle.program_sweep.specs.declared.row.Row.{Row}
use Rattle.program_sweep.specs.declared.form.RowForm.{RowForm}
use Rattle.program_sweep.specs.declared.sweep.Sweep.{Sweep}
use Rattle.program_sweep.specs.Form.{end_of, text_of_row}
use Rattle.program_sweep.specs.Sweep.{AreRows, HasRun, PrintsRows, PrintsSweep}

-- texts one after another
concat-append : (xs ys : List (List ℕ)) → concat (xs ++ ys) ≡ concat xs ++ concat ys
concat-append [] ys = refl
concat-append (x ∷ xs) ys = ap (λ (t : List ℕ). x ++ t) (concat-append xs ys) ∙ sym (append_assoc x (concat xs) (concat ys))

module _ (input : List ℕ) (sweep : Sweep) (program : List ℕ) (form : RowForm) where
  -- rows, and those after them
  rows-append : (first : ℕ) (texts more : List (List ℕ)) → AreRows input sweep program form first texts
      → AreRows input sweep program form (first + length texts) more → AreRows input sweep program form first (texts ++ more)
  rows-append first [] more are behind = subst (λ n. AreRows input sweep program form n more) (omega arith) behind
  rows-append first (text ∷ texts) more are behind = (
    are.0,
    rows-append (first + 1) texts more are.1
        (subst (λ n. AreRows input sweep program form n more) (omega arith) behind),
  )

  -- no row is printed
  pub prints_none : (first : ℕ) (out : Option (List ℕ)) → PrintsRows input sweep program form first 0 out out
  prints_none first out = record { texts = []; many = refl; rows = tt; printed = Appends-nil out }

  -- some rows are printed, and then some more
  pub prints_more : (first count more : ℕ) (a b c : Option (List ℕ)) → PrintsRows input sweep program form first count a b
      → PrintsRows input sweep program form (first + count) more b c → PrintsRows input sweep program form first (count + more) a c
  prints_more first count more a b c some others = record {
    texts = some.texts ++ others.texts;
    many = length-append some.texts others.texts ∙ ap (λ n. n + length others.texts) some.many
        ∙ ap (λ n. count + n) others.many;
    rows = rows-append first some.texts others.texts some.rows
        (subst (λ n. AreRows input sweep program form (first + n) others.texts) (sym some.many) others.rows);
    printed = subst (Appends a c) (sym (concat-append some.texts others.texts))
        (Appends-trans a b c (concat some.texts) (concat others.texts) some.printed others.printed);
  }

  -- the first rows are printed, and then some more
  pub prints_on : (count more : ℕ) (a b c : Option (List ℕ)) → PrintsRows input sweep program form 0 count a b
      → PrintsRows input sweep program form count more b c → PrintsRows input sweep program form 0 (count + more) a c
  prints_on count more a b c some others =
      prints_more 0 count more a b c some (subst (λ n. PrintsRows input sweep program form n more b c) (omega arith) others)

  -- one row is printed
  pub prints_one : (number : ℕ) (row : Row) (a b : Option (List ℕ)) → HasRun input sweep number row
      → Appends a b (text_of_row form program number row) → PrintsRows input sweep program form number 1 a b
  prints_one number row a b run printed =
      let text = text_of_row form program number row in
      record {
        texts = text ∷ [];
        many = refl;
        rows = (record { row = row; run = run; written = refl }, tt);
        printed = subst (Appends a b) (sym (append-nil text)) printed;
      }

  -- rows stay printed where the bytes stay
  pub prints_kept : (first count : ℕ) (a b c : Option (List ℕ)) → PrintsRows input sweep program form first count a b
      → Keeps b c → PrintsRows input sweep program form first count a c
  prints_kept first count a b c some kept = record {
    texts = some.texts;
    many = some.many;
    rows = some.rows;
    printed = Appends-kept a b c (concat some.texts) some.printed kept;
  }

  -- all rows are printed, and what follows them
  pub prints_all : (count : ℕ) (a b c : Option (List ℕ)) → PrintsRows input sweep program form 0 count a b
      → Appends b c (end_of form) → PrintsSweep input sweep program form count a c
  prints_all count a b c some foot = record {
    texts = some.texts;
    many = some.many;
    rows = some.rows;
    printed = Appends-trans a b c (concat some.texts) (end_of form) some.printed foot;
  }
