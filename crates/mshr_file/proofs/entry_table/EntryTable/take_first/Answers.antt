use Rattle.std.proofs.Common.{sym, ◌∙◌}
use Rattle.mshr_file.specs.Waiting.{waiting_in}
use Rattle.mshr_file.proofs.ByLine.{by_line_sound}
use Rattle.mshr_file.proofs.Entries.{has_miss_at, takes_targets, lines_taken}
use Rattle.mshr_file.proofs.entry_table.EntryTable.take_first.Goals as goal

pub take_entry-requires-clause-some : goal.take_entry-requires-clause-some
take_entry-requires-clause-some c = sym (has_miss_at (waiting_in c.args.self.now) c.args.line.0) ∙ c.requires.some

pub returns-clause-taken : goal.returns-clause-taken
returns-clause-taken c = takes_targets _ _ _ _ c.take_entry.ensures.taken

pub returns-clause-sound : goal.returns-clause-sound
returns-clause-sound c = by_line_sound (waiting_in c.take_entry.new.table)

pub returns-clause-lines : goal.returns-clause-lines
returns-clause-lines c = lines_taken _ _ _ _ c.take_entry.ensures.taken
