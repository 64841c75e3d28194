use Rattle.std.proofs.Common.{None}
use Rattle.directory_table.specs.declared.state.DirState.TheVariants as dir_states
use Rattle.changed_tables.proofs.SeenEntries.{is_seen}
use Rattle.changed_tables.proofs.seen.entry_seen.Goals as goal

pub returns-in-S-None-clause-entry : goal.returns-in-S-None-clause-entry
returns-in-S-None-clause-entry c =
    rw (c.shared_entry.ensures, c.sharing_of.ensures, c.in-S-None.is-0, c.in-S-None.is-1)
    (is_seen dir_states.S None c.args.sharers c.args.asker)

pub returns-in-S_D-None-clause-entry : goal.returns-in-S_D-None-clause-entry
returns-in-S_D-None-clause-entry c =
    rw (c.in-S_D-None.is-0, c.in-S_D-None.is-1, c.sharing_of-in-S_D-None.ensures)
    (is_seen dir_states.S_D None c.args.sharers c.args.asker)
