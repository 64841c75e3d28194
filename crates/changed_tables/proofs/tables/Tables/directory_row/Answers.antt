use Rattle.changed_tables.proofs.OurRows.{is_ours}
use Rattle.changed_tables.proofs.tables.Tables.directory_row.Goals as goal

pub returns-clause-ours : goal.returns-clause-ours
returns-clause-ours c = λ none.
    rw (c.row_at.ensures, none)
    (is_ours c.args.self.now.exclusive c.args.state c.args.owner c.args.sharers c.args.event)
