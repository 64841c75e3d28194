use Rattle.protocol_tables.proofs.CacheCases.{of_case}
use Rattle.protocol_tables.proofs.cache_rows.cache_rule.Goals as goal

pub returns-clause-each : goal.returns-clause-each
returns-clause-each c = λ event is. rw (c.cache_row.ensures.table, c.sample_of.ensures) (of_case c.args.state c.args.case event is)
