use Rattle.std.proofs.Common.{refl}
use Rattle.mshr_file.proofs.Slots.{empty_kept}
use Rattle.mshr_file.proofs.entry_table.EntryTable.new.Goals as goal

pub returns-clause-kept : goal.returns-clause-kept
returns-clause-kept c = (empty_kept _ c.new.ensures refl).0
