use Rattle.mshr_file.proofs.Slots.{free_under}
use Rattle.mshr_file.proofs.entry_table.EntryTable.has_free.Goals as goal

pub returns : goal.returns
returns c = free_under c.args.self.now c.args.tag c.is_none.result c.requires.kept c.requires.tag c.is_none.ensures
