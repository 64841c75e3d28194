use Rattle.std.proofs.Common.{◌≡◌, drop}
use Rattle.changed_tables.specs.Cache.{row_in}
use Rattle.changed_tables.proofs.tables.Tables.row.Given as goal

-- no change up to here is of the cell
abbrev pub invariant-loop-change : goal.invariant-loop-change
invariant-loop-change l =
    row_in l.fn.self.cache.items l.state l.case ≡ row_in (drop l.change-index l.change-items) l.state l.case
