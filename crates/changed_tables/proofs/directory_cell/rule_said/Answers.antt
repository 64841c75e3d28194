use Rattle.std.proofs.Common.{arith, below_more}
use Rattle.changed_tables.specs.DirectoryText.{IsSaid}
use Rattle.changed_tables.proofs.EachEffect.{each_rule}
use Rattle.changed_tables.proofs.Joined.{denied}
use Rattle.changed_tables.proofs.directory_cell.rule_said.Goals as goal

pub loop-number-preserved : goal.loop-number-preserved
loop-number-preserved c =
    below_more _ _ c.loop-number.invariant
    (denied (rw (c.if-branch-3.false, c.effect_at.ensures) at c.in_ok-is_said-3.ensures))

pub returns-clause-none : goal.returns-clause-none
returns-clause-none c = λ none.
    each_rule (λ rule. IsSaid c.args.entry c.args.case c.args.word.now rule → ⊥)
    (denied (rw c.if-branch.false at c.in_ok-is_said.ensures))
    (denied (rw c.if-branch-2.false at c.in_ok-is_said-2.ensures))
    (λ n below. c.loop-number.invariant n (omega arith))
