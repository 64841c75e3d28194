use Rattle.std.proofs.Common.{ap, map, sym, ◌∙◌}
use Rattle.mshr_file.specs.Waiting.{at_line, entry_at, waiting_in}
use Rattle.mshr_file.proofs.ByLine.{waits_at}
use Rattle.mshr_file.proofs.entry_table.EntryTable.targets.Goals as goal

pub returns : goal.returns
returns c =
    c.targets_at.ensures
    ∙ ap (λ slots. at_line c.args.line.0 (map (entry_at c.args.self.now.entries) slots)) c.as_slice.ensures.value
    ∙ sym (waits_at (waiting_in c.args.self.now) c.args.line.0)
