-- What a search of the rows says of their registers, and how rows and registers change together.
use mir.Val.{bool_byte}
use Rattle.std.proofs.Common.{◌≡◌, ℕ, zero, suc, ◌<◌, ◌≤◌, ◌==◌, Bool, true, false, not, nat_lt, if◌then◌else◌, List}
use Rattle.std.proofs.Common.{[], ◌∷◌, length, filter, map, replicate, get_or, set, Some, None, refl, sym, ap, ⊎_elim}
use Rattle.std.proofs.Common.{arith, ◌∙◌}
use Rattle.std.specs.Prelude.{◌&&◌, All, IsSome}
use Rattle.std.specs.List.{list_any, position, position_or_len}
use Rattle.std.proofs.lemmas.Bool.{cases_Bool, lt-ltb, ne_eqb}
use Rattle.std.proofs.lemmas.Option.{none-some}
use Rattle.std.proofs.lemmas.List.{get_or-map, length-map, map-set}
use Rattle.std.proofs.lemmas.List.Elements.{All-set, All-cons, All-nil}
use Rattle.std.proofs.lemmas.List.Folds.{sum_by-replicate}
use Rattle.std.proofs.lemmas.List.Quantifiers.{position-Some}
use Rattle.target_list.specs.declared.target.Target.{Target}
use Rattle.mshr_file.specs.declared.registers.Register.{Register}
use Rattle.mshr_file.specs.declared.registers.RegisterTable.{RegisterTable}
use Rattle.mshr_file.specs.declared.registers.Row.{Row}
use Rattle.mshr_file.specs.Miss.{is_for, is_waited, targets_of, has_miss}
use Rattle.mshr_file.specs.Register.{misses_of, serves, no_register, row_of, no_row, row_serves, is_free_row, IsKept}
use Rattle.mshr_file.specs.Register.{HasEachLineOnce}
use Rattle.mshr_file.proofs.Lists.{any-map, kept-map, position_found, position_none, first-inside}
use Rattle.mshr_file.proofs.Steps.{has_miss_is, register_serving, waits_for, none_open}
use Rattle.mshr_file.proofs.Table.{nothing_waits}

-- A row is free where no target waits in its register.
free_row : (register : Register) → is_free_row (row_of register) ≡ not (is_waited register.targets)
free_row register = none register.targets
  where
    none : (targets : List Target) → (length targets == 0) ≡ not (is_waited targets)
    none [] = refl
    none (target ∷ targets) = ne_eqb _ _ (λ zero. omega (arith, zero))

pub used_row : (register : Register) → not (is_free_row (row_of register)) ≡ is_waited register.targets
used_row register = ap not (free_row register) ∙ twice (is_waited register.targets)
  where
    twice : (b : Bool) → not (not b) ≡ b
    twice true = refl
    twice false = refl

serving_row : (line : ℕ) (register : Register) → row_serves line (row_of register) ≡ serves line register
serving_row line register = ap (λ used. used && is_for line register) (used_row register)

-- Whether there is a miss for a line is whether a row serves it.
pub row_for : (table : RegisterTable) (line : ℕ) → IsKept table →
    list_any (row_serves line) table.rows.items.items ≡ has_miss (misses_of table.registers.items.items) line
row_for table line kept =
    ap (list_any (row_serves line)) kept.rows
    ∙ any-map row_of (row_serves line) (serves line) (serving_row line) table.registers.items.items
    ∙ has_miss_is table.registers.items.items line

-- The rows in use are as many as the open registers.
pub open_rows : (table : RegisterTable) → IsKept table →
    length (filter (λ row. not (is_free_row row)) table.rows.items.items) ≡ length
    (misses_of table.registers.items.items)
open_rows table kept =
    ap (λ rows. length (filter (λ row. not (is_free_row row)) rows)) kept.rows
    ∙ kept-map row_of (λ row. not (is_free_row row))
    (λ register. is_waited register.targets) used_row table.registers.items.items

pub as_many : (table : RegisterTable) → IsKept table
    → length table.rows.items.items ≡ length table.registers.items.items
as_many table kept = ap length kept.rows ∙ length-map table.registers.items.items row_of

-- the row at a place is that of the register there
pub row_at : (table : RegisterTable) (place : ℕ) (d : Row) → IsKept table → place < length table.registers.items.items →
    get_or table.rows.items.items place d ≡ row_of (get_or table.registers.items.items place no_register)
row_at table place d kept inside =
    ap (λ rows. get_or rows place d) kept.rows ∙ get_or-map row_of table.registers.items.items
    place no_register d inside

pub record IsServedAt (table : RegisterTable) (line place : ℕ) : Type 0 where
  pub row : place < length table.rows.items.items
  pub inside : place < length table.registers.items.items
  pub serving : serves line (get_or table.registers.items.items place no_register) ≡ true
  pub waits : targets_of (misses_of table.registers.items.items) line
      ≡ (get_or table.registers.items.items place no_register).targets

-- Where a search finds a row for a line, the line waits in its register.
pub served_at : (table : RegisterTable) (line place : ℕ) → IsKept table →
    position (row_serves line) table.rows.items.items ≡ Some place →
    IsServedAt table line place
served_at table line place kept found = record {
  row = row;
  inside = inside;
  serving = serving;
  waits = waits_for table.registers.items.items place line
      (register_serving table.registers.items.items place line kept.single inside serving);
}
  where
    row : place < length table.rows.items.items
    row = (position-Some (row_serves line) table.rows.items.items place no_row found).0

    inside : place < length table.registers.items.items
    inside = let same = as_many table kept in omega (arith, row, same)

    serving : serves line (get_or table.registers.items.items place no_register) ≡ true
    serving =
        sym (serving_row line (get_or table.registers.items.items place no_register))
        ∙ ap (row_serves line) (sym (row_at table place no_row kept inside))
        ∙ (position-Some (row_serves line) table.rows.items.items place no_row found).1

-- Where a search finds none, nothing waits for the line.
pub unserved : (table : RegisterTable) (line : ℕ) → IsKept table
    → position (row_serves line) table.rows.items.items ≡ None →
    targets_of (misses_of table.registers.items.items) line ≡ []
unserved table line kept missing =
    ⊎_elim
    (λ there. absurd (none_missing (row_serves line) table.rows.items.items there missing))
    (λ nobody. nothing_waits _ (sym (row_for table line kept) ∙ nobody))
    (cases_Bool (list_any (row_serves line) table.rows.items.items))
  where
    none_missing : (p : Row → Bool) (rows : List Row) → list_any p rows ≡ true → position p rows ≡ None → ⊥
    none_missing p rows there missing =
        let inside : nat_lt (position_or_len p rows) (length rows) ≡ true = lt-ltb _ _ (first-inside p rows there) in
        let some : Some (position_or_len p rows) ≡ None = rw inside at missing in
        none-some _ (sym some)

-- Where a line is waited for, some register is open.
pub some_open : (table : RegisterTable) (line : ℕ) → IsKept table →
    has_miss (misses_of table.registers.items.items) line ≡ true → 1 ≤ table.open_count
some_open table line kept there =
    let some = not_empty (misses_of table.registers.items.items) there in
    let counted = kept.counted in
    omega (arith, some, counted)
  where
    not_empty : (misses : List Register) → has_miss misses line ≡ true → 1 ≤ length misses
    not_empty [] there = absurd cc
    not_empty (first ∷ rest) there = omega arith

-- Where none is, no row serves a line.
pub none_serves : (table : RegisterTable) (line : ℕ) → IsKept table → table.open_count ≡ 0 →
    position (row_serves line) table.rows.items.items ≡ None
none_serves table line kept closed =
    ⊎_elim
    (λ there. absurd (let some = some_open table line kept there in omega (arith, some, closed)))
    (λ nobody. position_none (row_serves line) table.rows.items.items (row_for table line kept ∙ nobody))
    (cases_Bool (has_miss (misses_of table.registers.items.items) line))

-- A miss is found.
pub row_found : (table : RegisterTable) (line : ℕ) → IsKept table →
    has_miss (misses_of table.registers.items.items) line ≡ true →
    IsSome (position (row_serves line) table.rows.items.items)
row_found table line kept there =
    position_found (row_serves line) table.rows.items.items (row_for table line kept ∙ there)

-- Where not all registers are open, a free row is found.
pub free_found : (table : RegisterTable) → IsKept table →
    length (misses_of table.registers.items.items) < length table.registers.items.items →
    IsSome (position is_free_row table.rows.items.items)
free_found table kept fewer =
    position_found is_free_row table.rows.items.items (free_somewhere table.rows.items.items few)
  where
    few : length (filter (λ row. not (is_free_row row)) table.rows.items.items) < length table.rows.items.items
    few = let used = open_rows table kept in let same = as_many table kept in omega (arith, fewer, used, same)

    free_somewhere : (rows : List Row) → length (filter (λ row. not (is_free_row row)) rows) < length rows →
        list_any is_free_row rows ≡ true
    free_somewhere [] none = absurd (omega (arith, none))
    free_somewhere (row ∷ rows) less =
        ⊎_elim
        (λ free. rw free refl)
        (λ used. rw used (free_somewhere rows (let shorter = rw used at less in omega (arith, shorter))))
        (cases_Bool (is_free_row row))

pub record IsFreeAt (table : RegisterTable) (place : ℕ) : Type 0 where
  pub row : place < length table.rows.items.items
  pub inside : place < length table.registers.items.items
  pub free : is_waited (get_or table.registers.items.items place no_register).targets ≡ false

pub free_at : (table : RegisterTable) (place : ℕ) → IsKept table
    → position is_free_row table.rows.items.items ≡ Some place →
    IsFreeAt table place
free_at table place kept found = record {
  row = row;
  inside = inside;
  free =
      by_not _
      (sym (free_row (get_or table.registers.items.items place no_register))
      ∙ ap is_free_row (sym (row_at table place no_row kept inside))
      ∙ (position-Some is_free_row table.rows.items.items place no_row found).1);
}
  where
    row : place < length table.rows.items.items
    row = (position-Some is_free_row table.rows.items.items place no_row found).0

    inside : place < length table.registers.items.items
    inside = let same = as_many table kept in omega (arith, row, same)

    by_not : (b : Bool) → not b ≡ true → b ≡ false
    by_not true e = absurd cc
    by_not false e = refl

-- A table of free registers and free rows is kept.
pub free_kept : (count : ℕ) (table : RegisterTable) → table.rows.items.items ≡ replicate count no_row →
    table.registers.items.items ≡ replicate count no_register → table.open_count ≡ 0 → IsKept table
free_kept count table rows registers closed = record {
  few = rw rows (all_free count);
  rows = rows ∙ free_rows count ∙ ap (map row_of) (sym registers);
  single = rw registers
      (record {
        once = λ line. let none = sum_by-replicate (λ r. if serves line r then 1 else 0) count no_register in
            omega (arith, none);
      });
  counted = closed ∙ sym (ap (λ all. length (misses_of all)) registers ∙ ap length (none_open count));
}
  where
    free_rows : (count : ℕ) → replicate count no_row ≡ map row_of (replicate count no_register)
    free_rows zero = refl
    free_rows (suc count) = ap (λ rows. no_row ∷ rows) (free_rows count)

    all_free : (count : ℕ) → All (λ row. row.waiting ≤ 64) (replicate count no_row)
    all_free zero = All-nil _
    all_free (suc count) =
        All-cons (λ row. row.waiting ≤ 64) no_row (replicate count no_row) (omega arith) (all_free count)

-- The row of a register says whether it is closed now, which is counted as 1.
pub closed_one : (row : Row) (register : Register) (free : Bool) → free ≡ is_free_row row → row ≡ row_of register →
    bool_byte free ≡ (if is_waited register.targets then 0 else 1)
closed_one row register free is for =
    ap bool_byte (is ∙ ap is_free_row for ∙ free_row register) ∙ turned (is_waited register.targets)
  where
    turned : (b : Bool) → bool_byte (not b) ≡ (if b then 0 else 1)
    turned true = refl
    turned false = refl

pub one_at_most : (b : Bool) → bool_byte b ≤ 1
one_at_most true = omega arith
one_at_most false = omega arith

-- A table is kept where a register and its row change together, and the open ones are counted.
pub kept_after : (table after : RegisterTable) (place : ℕ) (register : Register) (row : Row) → IsKept table →
    HasEachLineOnce (set table.registers.items.items place register) →
    after.registers.items.items ≡ set table.registers.items.items place register →
    after.rows.items.items ≡ set table.rows.items.items place row →
    row ≡ row_of register → row.waiting ≤ 64 →
    after.open_count ≡ length (misses_of (set table.registers.items.items place register)) → IsKept after
kept_after table after place register row kept single registers rows for few count = record {
  few = rw rows (All-set (λ row. row.waiting ≤ 64) table.rows.items.items place row few kept.few);
  rows =
      rows
      ∙ ap (λ r. set table.rows.items.items place r) for
      ∙ ap (λ all. set all place (row_of register)) kept.rows
      ∙ sym (map-set row_of table.registers.items.items place register)
      ∙ ap (map row_of) (sym registers);
  single = rw registers single;
  counted = count ∙ ap (λ all. length (misses_of all)) (sym registers);
}
