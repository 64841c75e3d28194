-- A table of miss registers; those with a target are open.
use Rattle.std.specs.Prelude.{◌≡◌, ℕ, ◌≤◌, ◌==◌, Bool, not, ◌&&◌, List, [], length, filter, map, All}
use Rattle.std.specs.Box.{boxed_slice_items}
use Rattle.std.specs.List.{count_by}
use Rattle.mshr_file.specs.declared.registers.Register.{Register}
use Rattle.mshr_file.specs.declared.registers.RegisterTable.{RegisterTable}
use Rattle.mshr_file.specs.declared.registers.Row.{Row}
use Rattle.mshr_file.specs.Miss.{is_for, is_waited}

pub record Table : Type 0 where
  -- all registers, also those that are free
  pub registers : List Register
  -- how many targets each has room for
  pub fields : ℕ

abbrev pub no_register : Register
no_register = record { targets = []; line = record { 0 = 0 } }

-- the registers that are open
abbrev pub misses_of : List Register → List Register
misses_of registers = filter (λ register. is_waited register.targets) registers

-- the register is open, and for this line
abbrev pub serves : ℕ → Register → Bool
serves line register = is_waited register.targets && is_for line register

-- No line has two open registers.
pub record HasEachLineOnce (registers : List Register) : Type 0 where
  pub once : (line : ℕ) → count_by (serves line) registers ≤ 1

-- what a search reads of a register
abbrev pub row_of : Register → Row
row_of register = record { line = register.line; waiting = length register.targets }

-- the row of a free register
abbrev pub no_row : Row
no_row = record { line = record { 0 = 0 }; waiting = 0 }

-- the register of the row is free
abbrev pub is_free_row : Row → Bool
is_free_row row = row.waiting == 0

-- the register of the row is open, and for this line
abbrev pub row_serves : ℕ → Row → Bool
row_serves line row = not (is_free_row row) && (row.line.0 == line)

-- all registers of a table, also those that are free
abbrev pub registers_in : RegisterTable → List Register
registers_in table = boxed_slice_items table.registers

-- those of them that are open
abbrev pub open_in : RegisterTable → List Register
open_in table = misses_of (registers_in table)

-- Each register has its row and at most 64 targets, no line has two open registers, and those that are open are
-- counted.
pub record IsKept (table : RegisterTable) : Type 0 where
  pub few : All (λ row. row.waiting ≤ 64) (boxed_slice_items table.rows)
  pub rows : boxed_slice_items table.rows ≡ map row_of (registers_in table)
  pub single : HasEachLineOnce (registers_in table)
  pub counted : table.open_count ≡ length (open_in table)

-- The bounds of a file of registers are those that a configuration may have.
pub record IsTable (table : Table) : Type 0 where
  pub few : length table.registers ≤ 32
  pub short : table.fields ≤ 32
