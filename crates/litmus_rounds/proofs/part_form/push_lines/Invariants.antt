use Rattle.std.proofs.Common.{◌≡◌, ◌++◌, drop}
use Rattle.std.specs.List.{flat_map}
use Rattle.litmus_rounds.specs.PartForm.{line_of}
use Rattle.litmus_rounds.proofs.part_form.push_lines.Given as goal

-- what is written, and what is left, are the whole
abbrev pub invariant-loop-row : goal.invariant-loop-row
invariant-loop-row l =
    l.out.items ++ flat_map (line_of l.seed) (drop l.row-index l.rows) ≡ l.fn.out.items ++ flat_map (line_of l.seed) l.rows
