use Rattle.std.proofs.Common.{ap, sym, ◌∙◌}
use Rattle.std.specs.List.{list_any}
use Rattle.mshr_file.specs.Waiting.{slot_for, waiting_in}
use Rattle.mshr_file.proofs.ByLine.{by_line_sound}
use Rattle.mshr_file.proofs.Entries.{has_miss_at}
use Rattle.mshr_file.proofs.Slots.{any_slot}
use Rattle.mshr_file.proofs.entry_table.EntryTable.waits.Goals as goal

pub returns-clause-waits : goal.returns-clause-waits
returns-clause-waits c =
    c.any_for.ensures
    ∙ ap (list_any (slot_for c.args.line.0)) c.as_slice.ensures.value
    ∙ any_slot c.args.self.now c.args.line.0 c.requires
    ∙ sym (has_miss_at (waiting_in c.args.self.now) c.args.line.0)

pub returns-clause-sound : goal.returns-clause-sound
returns-clause-sound c = by_line_sound (waiting_in c.args.self.now)
