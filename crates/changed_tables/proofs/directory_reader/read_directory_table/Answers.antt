use Rattle.changed_tables.specs.DirectoryText.{IsChange, IsRead, SaysOurs}
use Rattle.changed_tables.specs.Layout.{cell_at}
use Rattle.changed_tables.proofs.Cells.{all_mapped, none_changed}
use Rattle.changed_tables.proofs.directory_reader.read_directory_table.Goals as goal

pub returns-clause-back : goal.returns-clause-back
returns-clause-back c =
    all_mapped (IsRead c.args.exclusive c.in_ok-changes.changes.items) cell_at c.in_ok-cells.cells.items _
    c.in_ok-cells.ensures
    (rw (c.deref-2.ensures.value, c.deref-3.ensures.value) at c.in_ok-check_cells.ensures)

pub returns-clause-only : goal.returns-clause-only
returns-clause-only c = rw (c.deref.ensures.value, c.in_ok-cells.ensures) at c.in_ok-changes.ensures

pub returns-clause-ours : goal.returns-clause-ours
returns-clause-ours c = λ ours.
    none_changed (IsChange c.args.exclusive) (SaysOurs c.args.exclusive)
    (λ change cell changed same. changed.changed.not_ours (same _ _ changed.place)) _ c.in_ok-changes.changes.items ours
    (returns-clause-only c)
