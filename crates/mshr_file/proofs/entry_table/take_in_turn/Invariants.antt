use Rattle.std.proofs.Common.{◌≡◌, length}
use Rattle.mshr_file.specs.Waiting.{waiting_in, IsEntryTable, TakesEntries}
use Rattle.mshr_file.proofs.entry_table.take_in_turn.Given as goal

pub record Taking (l : goal.Live-loop) : Type 0 where
  pub kept : IsEntryTable l.table
  pub counted : length l.taken.items ≡ l.counter
  pub takes : TakesEntries (waiting_in l.fn.table) l.line.0 l.taken.items (waiting_in l.table)

abbrev pub invariant-loop : goal.invariant-loop
invariant-loop l = Taking l
