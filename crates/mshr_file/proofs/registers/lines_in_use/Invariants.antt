use Rattle.std.proofs.Common.{◌≡◌, filter, map, not, take}
use Rattle.mshr_file.specs.Register.{is_free_row}
use Rattle.mshr_file.proofs.registers.lines_in_use.Given as goal

-- those of the rows so far
abbrev pub invariant-loop-row : goal.invariant-loop-row
invariant-loop-row l =
    l.lines.items ≡ map (λ row. row.line) (filter (λ row. not (is_free_row row)) (take l.row-index l.rows))
