use Rattle.std.proofs.Common.{◌≡◌, drop}
use Rattle.changed_tables.specs.Directory.{rule_in}
use Rattle.changed_tables.proofs.tables.Tables.rule.Given as goal

-- no change up to here is of the cell
abbrev pub invariant-loop-change : goal.invariant-loop-change
invariant-loop-change l =
    rule_in l.fn.self.exclusive l.fn.self.directory.items l.entry l.case
    ≡ rule_in l.fn.self.exclusive (drop l.change-index l.change-items) l.entry l.case
