use Rattle.std.proofs.Common.{ℕ, ◌<◌}
use Rattle.protocol_tables.specs.declared.directory_rows.DirRule.TheVariants as rules
use Rattle.changed_tables.specs.DirectoryText.{IsSaid}
use Rattle.changed_tables.specs.Effects.{effect_at}
use Rattle.changed_tables.proofs.directory_cell.rule_said.Given as goal

-- none so far says the word
abbrev pub invariant-loop-number : goal.invariant-loop-number
invariant-loop-number l =
    (k : ℕ) → k < l.number → IsSaid l.entry l.case l.word (rules.Go (effect_at k)) → ⊥
