-- The text of rows.
use Rattle.std.specs.Prelude.{ℕ, ◌==◌, Bool, true, false, List, [], ◌++◌, codes, decimal, if◌then◌else◌}
use Rattle.std.specs.List.{flat_map}
use Rattle.address_map.specs.declared.config.PolicyKind.{PolicyKind}
use Rattle.address_map.specs.declared.config.PolicyKind.TheVariants as policies
use Rattle.litmus_text.specs.JsonNumber.{number_of}
use Rattle.mshr_file.specs.declared.kind.MissKind.{MissKind}
use Rattle.mshr_file.specs.declared.kind.MissKind.TheVariants as miss_kinds
use Rattle.program_sweep.specs.Cell.{all_cells, name_of, value_in}
use Rattle.program_sweep.specs.declared.cell.Cell.{Cell}
use Rattle.program_sweep.specs.declared.cell.Value.{Value}
use Rattle.program_sweep.specs.declared.cell.Value.TheVariants as values
use Rattle.program_sweep.specs.declared.form.Layout.{Layout}
use Rattle.program_sweep.specs.declared.form.Layout.TheVariants as layouts
use Rattle.program_sweep.specs.declared.form.RowForm.{RowForm}
use Rattle.program_sweep.specs.declared.form.RowForm.TheVariants as row_forms
use Rattle.program_sweep.specs.declared.row.Row.{Row}

-- ---- values as text

abbrev pub policy_of : PolicyKind → List ℕ
policy_of policies.Lru = codes "lru"
policy_of policies.Fifo = codes "fifo"
policy_of (policies.Random seed) = codes "random " ++ decimal seed

abbrev pub misses_of : MissKind → List ℕ
misses_of miss_kinds.Explicit = codes "explicit"
misses_of miss_kinds.Inverted = codes "inverted"

abbrev pub switch_of : Bool → List ℕ
switch_of true = codes "on"
switch_of false = codes "off"

-- in CSV: nothing where there is nothing
abbrev pub plain_of : Value → List ℕ
plain_of (values.Number number) = decimal number
plain_of values.Nothing = []
plain_of (values.Policy policy) = policy_of policy
plain_of (values.Misses misses) = misses_of misses
plain_of (values.Switch on) = switch_of on

-- in JSON: a number as it is, and any other value between quotes
abbrev pub json_of : Value → List ℕ
json_of (values.Number number) = number_of number
json_of values.Nothing = codes "null"
json_of (values.Policy policy) = codes "\"" ++ policy_of policy ++ codes "\""
json_of (values.Misses misses) = codes "\"" ++ misses_of misses ++ codes "\""
json_of (values.Switch on) = codes "\"" ++ switch_of on ++ codes "\""

-- ---- lines

-- a cell, after the one before it
abbrev pub cell_of : Layout → Row → Cell → List ℕ
cell_of layouts.Names row cell = codes "," ++ name_of cell
cell_of layouts.Values row cell = codes "," ++ plain_of (value_in cell row)
cell_of layouts.Members row cell = codes ",\"" ++ name_of cell ++ codes "\":" ++ json_of (value_in cell row)

abbrev pub cells_of : Layout → Row → List Cell → List ℕ
cells_of layout row cells = flat_map (cell_of layout row) cells

abbrev pub heading_of : Row → List ℕ
heading_of row = codes "program" ++ cells_of layouts.Names row all_cells ++ codes "\n"

abbrev pub heading_if : Bool → Row → List ℕ
heading_if first row = if first then heading_of row else []

-- a row of CSV, after the heading where it is the first
abbrev pub csv_of : List ℕ → Bool → Row → List ℕ
csv_of program first row = heading_if first row ++ program ++ cells_of layouts.Values row all_cells ++ codes "\n"

-- what is before a row of JSON and begins it
abbrev pub front_of : ℕ → List ℕ
front_of number = if number == 0 then codes "[\n{\"program\":" else codes ",\n{\"program\":"

-- the row of this number with what is before it; the program's name is there as the form writes it
abbrev pub text_of_row : RowForm → List ℕ → ℕ → Row → List ℕ
text_of_row row_forms.Csv program number row = csv_of program (number == 0) row
text_of_row row_forms.Json program number row =
    front_of number ++ program ++ cells_of layouts.Members row all_cells ++ codes "}"

-- what follows all rows
abbrev pub end_of : RowForm → List ℕ
end_of row_forms.Csv = []
end_of row_forms.Json = codes "\n]\n"
