use Rattle.std.proofs.Common.{◌≡◌, ◌-◌, ◌++◌, map}
use Rattle.std.specs.List.{range_with_len}
use Rattle.program_text.specs.Text.{access_to}
use Rattle.program_text.proofs.repeat.push_accesses.Given as goal

-- the steps to the words below this one are there
abbrev pub invariant-loop-word : goal.invariant-loop-word
invariant-loop-word l =
    l.steps.items
    ≡ l.fn.steps.items ++ map (access_to l.op) (range_with_len l.fn.range.first (l.word - l.fn.range.first))
