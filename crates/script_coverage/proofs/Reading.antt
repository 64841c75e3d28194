-- Words that name a cell, and say how often it was met.
use Rattle.std.proofs.Common.{◌≡◌, ◌∙◌, ℕ, ◌<◌, ◌≤◌, Bor, List, [], ◌∷◌, ap, arith, get_or, length, map, refl, sym}
use Rattle.std.specs.Str.Parse.{digits_value}
use Rattle.litmus_text.specs.Number.{IsNumber}
use Rattle.script_coverage.specs.Read.{IsCell, IsCount, IsNoCount, names_of}
use Rattle.script_coverage.specs.TableCell.{name_of_event, name_of_outcome, name_of_state, table_of}
use Rattle.script_coverage.specs.declared.cells.TheConstants.{CELLS}
use Rattle.script_coverage.specs.declared.table_cell.Cell.{Cell}
use Rattle.script_coverage.proofs.Lists.{found_at, here_is}

-- ---- the cell that is looked for

pub cell_at : (names : List (List ℕ)) (number : ℕ) (d : Cell) → number < length CELLS
    → names ≡ names_of (get_or CELLS number d) → IsCell names number
cell_at names number d within named =
    record { cell = get_or CELLS number d; is = found_at CELLS number (get_or CELLS number d) d within refl; named = named }

pub names_at : (names : List (List ℕ)) (number : ℕ) (d : Cell) → IsCell names number
    → names ≡ names_of (get_or CELLS number d)
names_at names number d is = is.named ∙ ap names_of (sym (here_is CELLS number is.cell d is.is))

-- ---- the words of a line

module _ (table state event outcome times : List ℕ) where
  -- names of a cell, and a number after them
  pub count_of_names : (number : ℕ) → IsCell (table ∷ state ∷ event ∷ outcome ∷ []) number → IsNumber times
      → IsCount (table ∷ state ∷ event ∷ outcome ∷ times ∷ []) number (digits_value 10 times)
  count_of_names number is spelt = record {
    cell = is.cell;
    is = is.is;
    written = (
      ap (λ (ns : List (List ℕ)). get_or ns 0 []) is.named,
      (
        ap (λ (ns : List (List ℕ)). get_or ns 1 []) is.named,
        (
          ap (λ (ns : List (List ℕ)). get_or ns 2 []) is.named,
          (ap (λ (ns : List (List ℕ)). get_or ns 3 []) is.named, (spelt, refl, tt)),
        ),
      ),
    );
  }

  -- names of no cell
  pub no_names : ((number : ℕ) → ¬ IsCell (table ∷ state ∷ event ∷ outcome ∷ []) number)
      → IsNoCount (table ∷ state ∷ event ∷ outcome ∷ times ∷ [])
  no_names none number count said =
      let w = said.written in
      let a : table ≡ table_of said.cell.state = w.0 in
      let b : state ≡ name_of_state said.cell.state = w.1.0 in
      let c : event ≡ name_of_event said.cell.event = w.1.1.0 in
      let d : outcome ≡ name_of_outcome said.cell.outcome = w.1.1.1.0 in
      none number (record { cell = said.cell; is = said.is; named = cc })

  -- .. or no number after them
  pub no_number : ¬ IsNumber times → IsNoCount (table ∷ state ∷ event ∷ outcome ∷ times ∷ [])
  no_number none number count said = none said.written.1.1.1.1.0

-- .. of a line of five words
pub no_names_in : (words : List (Bor (List ℕ))) (d : Bor (List ℕ)) → 5 ≤ length words → length words < 6
    → ((number : ℕ) → ¬ IsCell ((get_or words 0 d).now ∷ (get_or words 1 d).now ∷ (get_or words 2 d).now
    ∷ (get_or words 3 d).now ∷ []) number)
    → IsNoCount (map (λ w. w.now) words)
no_names_in [] d five end none = absurd (omega arith)
no_names_in (a ∷ []) d five end none = absurd (omega arith)
no_names_in (a ∷ b ∷ []) d five end none = absurd (omega arith)
no_names_in (a ∷ b ∷ x ∷ []) d five end none = absurd (omega arith)
no_names_in (a ∷ b ∷ x ∷ y ∷ []) d five end none = absurd (omega arith)
no_names_in (a ∷ b ∷ x ∷ y ∷ z ∷ []) d five end none = no_names a.now b.now x.now y.now z.now none
no_names_in (a ∷ b ∷ x ∷ y ∷ z ∷ v ∷ more) d five end none = absurd (omega arith)
