use Rattle.protocol_tables.proofs.DirectoryEntries.{means}
use Rattle.protocol_tables.proofs.directory_rows.directory_rule.Goals as goal

pub returns-clause-each : goal.returns-clause-each
returns-clause-each c = λ at asker is.
    rw c.rule.ensures
    (means c.args.exclusive c.args.entry c.args.case at.state at.owner at.sharers asker is)
