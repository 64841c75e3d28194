use Rattle.std.proofs.Common.{◌≡◌, ◌++◌, drop}
use Rattle.std.specs.List.{flat_map}
use Rattle.litmus_rounds.specs.PartForm.{value_of}
use Rattle.litmus_rounds.proofs.part_form.push_values.Given as goal

-- what is written, and what is left, are the whole
abbrev pub invariant-loop-value : goal.invariant-loop-value
invariant-loop-value l =
    l.out.items ++ flat_map (value_of) (drop l.value-index l.values) ≡ l.fn.out.items ++ flat_map (value_of) l.values
