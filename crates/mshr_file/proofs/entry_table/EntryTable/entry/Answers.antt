use Rattle.std.proofs.Common.{sym, arith}
use Rattle.mshr_file.proofs.Slots.{past_last}
use Rattle.mshr_file.proofs.entry_table.EntryTable.entry.Goals as goal

pub returns-else-tag-lt64 : goal.returns-else-tag-lt64
returns-else-tag-lt64 c = sym (past_last c.args.self.now c.args.tag c.requires (omega arith))
