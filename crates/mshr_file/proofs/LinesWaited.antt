-- The lines that are waited for, as rows and as slots have them.
use Rattle.std.proofs.Common.{◌≡◌, ◌+◌, ◌-◌, ◌<◌, ◌≤◌, arith, drop, get_or, length}
use Rattle.std.proofs.Common.{◌==◌, ℕ, zero, suc, true, false, not, List, [], ◌∷◌, ◌++◌}
use Rattle.std.proofs.Common.{filter, map, slice_get, Some, refl, ap, sym, subst, ⊎_elim, ◌∙◌}
use Rattle.std.specs.Prelude.{All, IsTrue}
use Rattle.std.specs.List.{list_any}
use Rattle.std.proofs.lemmas.Bool.{cases_Bool, eq-eqb}
use Rattle.std.proofs.lemmas.List.{at_drop_more, drop_all}
use Rattle.std.proofs.lemmas.List.Elements.{All-head, All-tail}
use Rattle.address_map.specs.declared.address.Local.{Local}
use Rattle.target_list.specs.declared.target.Target.{Target}
use Rattle.mshr_file.specs.declared.entry_table.Slot.{Slot}
use Rattle.mshr_file.specs.declared.registers.Register.{Register}
use Rattle.mshr_file.specs.declared.registers.RegisterTable.{RegisterTable}
use Rattle.mshr_file.specs.declared.registers.Row.{Row}
use Rattle.mshr_file.specs.declared.waiting.Waiting.{Waiting}
use Rattle.mshr_file.specs.Miss.{has_miss, is_waited, targets_in, targets_of, waited_lines, IsMissFile}
use Rattle.mshr_file.specs.Register.{misses_of, row_of, is_free_row, IsKept}
use Rattle.mshr_file.specs.Waiting.{by_line, lines_from, put_first, slot_of, with_line}
use Rattle.mshr_file.proofs.Rows.{used_row}

-- The rows that are in use have the lines of the registers that are open.
lines_of_rows : (registers : List Register)
    → map (λ row. row.line) (filter (λ row. not (is_free_row row)) (map row_of registers))
    ≡ waited_lines (misses_of registers)
lines_of_rows [] = refl
lines_of_rows (register ∷ registers) =
    ⊎_elim
    (λ used.
    let taken : not (is_free_row (row_of register)) ≡ true = used_row register ∙ used in
    rw taken (rw used (ap (λ lines. register.line ∷ lines) (lines_of_rows registers))))
    (λ free.
    let unused : not (is_free_row (row_of register)) ≡ false = used_row register ∙ free in
    rw unused (rw free (lines_of_rows registers)))
    (cases_Bool (is_waited register.targets))

pub lines_of_table : (table : RegisterTable) → IsKept table
    → map (λ (row : Row). row.line) (filter (λ row. not (is_free_row row)) table.rows.items.items)
    ≡ waited_lines (misses_of table.registers.items.items)
lines_of_table table kept =
    ap (λ rows. map (λ (row : Row). row.line) (filter (λ row. not (is_free_row row)) rows)) kept.rows
    ∙ lines_of_rows table.registers.items.items

-- a line after others, the first of which is it or isn't
is_first : (first line : Local) (lines : List Local) → (first.0 == line.0) ≡ true
    → first ∷ lines ≡ with_line line (first ∷ lines)
is_first first line lines same = rw same refl

isnt_first : (first line : Local) (lines : List Local) → (first.0 == line.0) ≡ false
    → first ∷ with_line line lines ≡ with_line line (first ∷ lines)
isnt_first first line lines apart =
    ⊎_elim (λ among. rw apart (rw among refl)) (λ missing. rw apart (rw missing refl))
    (cases_Bool (list_any (λ (other : Local). other.0 == line.0) lines))

-- One target more brings its line, where the line has no register yet.
lines_put : (entry : Waiting) (registers : List Register)
    → waited_lines (put_first entry registers) ≡ with_line entry.line (waited_lines registers)
unfolding put_first
lines_put entry [] = refl
lines_put entry (register ∷ registers) =
    ⊎_elim
    (λ here.
    let longer : Register = record { targets = entry.target ∷ register.targets; line = register.line } in
    let is : put_first entry (register ∷ registers) ≡ longer ∷ registers = rw here refl in
    ap waited_lines is ∙ is_first register.line entry.line (waited_lines registers) here)
    (λ elsewhere.
    let is : put_first entry (register ∷ registers) ≡ register ∷ put_first entry registers = rw elsewhere refl in
    ap waited_lines is ∙ ap (λ lines. register.line ∷ lines) (lines_put entry registers)
    ∙ isnt_first register.line entry.line (waited_lines registers) elsewhere)
    (cases_Bool (register.line.0 == entry.line.0))

-- The lines of entries are those of their slots.
pub lines_of_slots : (entries : List Waiting) → lines_from (map slot_of entries) ≡ waited_lines (by_line entries)
unfolding by_line lines_from
lines_of_slots [] = refl
lines_of_slots (entry ∷ entries) =
    ap (with_line entry.line) (lines_of_slots entries) ∙ sym (lines_put entry (by_line entries))

-- The lines of the last slots: of none, of one more, and of all.
pub lines_from_none : (slots : List Slot) → [] ≡ lines_from (drop (length slots - 0) slots)
unfolding lines_from
lines_from_none slots =
    let none : drop (length slots - 0) slots ≡ [] = drop_all (length slots - 0) slots (omega arith) in
    ap lines_from (sym none)

pub lines_from_more : (slots : List Slot) (seen : ℕ) (d : Slot) → seen < length slots
    → lines_from (drop (length slots - (seen + 1)) slots)
    ≡ with_line (get_or slots (length slots - 1 - seen) d).line (lines_from (drop (length slots - seen) slots))
unfolding lines_from
lines_from_more slots seen d below =
    let place : length slots - (seen + 1) ≡ length slots - 1 - seen = omega arith in
    let behind : length slots - 1 - seen + 1 ≡ length slots - seen = omega (arith, below) in
    ap (λ n. lines_from (drop n slots)) place
    ∙ at_drop_more lines_from slots (length slots - 1 - seen) d (omega (arith, below))
    ∙ ap (λ n. with_line (get_or slots (length slots - 1 - seen) d).line (lines_from (drop n slots))) behind

pub lines_from_all : (slots : List Slot) (seen : ℕ) → length slots ≤ seen
    → lines_from (drop (length slots - seen) slots) ≡ lines_from slots
lines_from_all slots seen end =
    let none : length slots - seen ≡ 0 = omega (arith, end) in ap (λ n. lines_from (drop n slots)) none

-- Each register's line is waited for.
pub register_waits : (misses : List Register) (place : ℕ) (register : Register) → IsMissFile misses
    → slice_get misses place ≡ Some register → has_miss misses register.line.0 ≡ true
register_waits misses place register file at =
    found misses place (λ k d within. file.waited k d within) at
  where
    -- some target waits, in the first register or in those after it
    either : (here behind : List Target) → is_waited behind ≡ true → is_waited (here ++ behind) ≡ true
    either [] behind waits = waits
    either (target ∷ here) behind waits = refl

    first : (here behind : List Target) → is_waited here ≡ true → is_waited (here ++ behind) ≡ true
    first (target ∷ here) behind waits = refl
    first [] behind waits = (cc)

    own : (r : Register) → targets_in r.line.0 r ≡ r.targets
    own r = let is : (r.line.0 == r.line.0) ≡ true = eq-eqb r.line.0 r.line.0 refl in rw is refl

    found : (misses : List Register) (place : ℕ) → All (λ r. IsTrue (is_waited r.targets)) misses
        → slice_get misses place ≡ Some register → has_miss misses register.line.0 ≡ true
    found [] place waited at = (cc)
    found (r ∷ rest) zero waited at =
        let same : r ≡ register = (cc) in
        let here : is_waited r.targets ≡ true = All-head (λ r. IsTrue (is_waited r.targets)) r rest waited in
        subst (λ (n : ℕ). has_miss (r ∷ rest) n ≡ true) (ap (λ (r : Register). r.line.0) same)
        (first (targets_in r.line.0 r) (targets_of rest r.line.0) (ap is_waited (own r) ∙ here))
    found (r ∷ rest) (suc place) waited at =
        either (targets_in register.line.0 r) (targets_of rest register.line.0)
        (found rest place (All-tail (λ r. IsTrue (is_waited r.targets)) r rest waited) at)
