use Rattle.std.proofs.Common.{◌≡◌, drop}
use Rattle.changed_tables.specs.DirectoryText.{text_in}
use Rattle.changed_tables.proofs.directory_reader.says_in.Given as goal

-- no change up to here is of the cell
abbrev pub invariant-loop-change : goal.invariant-loop-change
invariant-loop-change l =
    text_in l.exclusive l.changes l.entry l.case
    ≡ text_in l.exclusive (drop l.change-index l.changes) l.entry l.case
