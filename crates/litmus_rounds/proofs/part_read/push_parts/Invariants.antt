use Rattle.std.proofs.Common.{◌≡◌, ◌++◌, drop}
use Rattle.std.specs.List.{flat_map}
use Rattle.litmus_rounds.specs.PartForm.{text_of_part}
use Rattle.litmus_rounds.proofs.part_read.push_parts.Given as goal

-- what is written, and what is left, are the whole
abbrev pub invariant-loop-part : goal.invariant-loop-part
invariant-loop-part l =
    l.out.items ++ flat_map (text_of_part) (drop l.part-index l.parts) ≡ l.fn.out.items ++ flat_map (text_of_part) l.parts
