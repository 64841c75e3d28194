use Rattle.std.proofs.Common.{ap, length, filter, ◌∙◌}
use Rattle.mshr_file.specs.Waiting.{slot_for, waiting_in}
use Rattle.mshr_file.proofs.Entries.{length_at}
use Rattle.mshr_file.proofs.Slots.{count_slot}
use Rattle.mshr_file.proofs.entry_table.EntryTable.count_at_line.Goals as goal

pub returns-clause-count : goal.returns-clause-count
returns-clause-count c =
    c.count_slots.ensures.count
    ∙ ap (λ slots. length (filter (slot_for c.args.line.0) slots)) c.as_slice.ensures.value
    ∙ count_slot c.args.self.now c.args.line.0 c.requires
    ∙ length_at c.args.line.0 (waiting_in c.args.self.now)
